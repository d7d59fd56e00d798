-- What saving leaves in the caller's buffer is read back as the session, for every session that can be saved.
use mathlib.Core.Path.{◌≡◌, refl, ap, ◌∙◌}
use mathlib.Core.Bool.{Bool, true, false}
use Prim.Native.Nat.{ℕ}
use native.Mathlib.Omega.{arith}
use lib.ListN.{length, take, drop}
use lib.Seq.{take_at}
use Rattle.octets.specs.Bytes.{Bytes}
use Rattle.std.specs.Prelude.{if◌then◌else◌, Ok, Err}
use Rattle.octets.specs.Write.{over}
use Rattle.refusal.specs.declared.Refusal.{Refusal}
use Rattle.session.specs.Arrays.{Arrays}
use Rattle.session.specs.declared.Session.{Session}
use Rattle.session_rules.specs.Valid.{valid}
use Rattle.session_bytes.specs.Saved.{session_size, encode, decode, decoded_to}
use Rattle.session_bytes.specs.Saving.{Encoding, encoding, encoded_in}
use Rattle.session_bytes.proofs.SavedParts.{length_encode}
use Rattle.session_bytes.proofs.DecodeEncode.{decode_encode}

-- only a session that keeps the rules is saved
saved_valid : (s : Session) (room : ℕ) → encoding s room ≡ Ok tt → valid s ≡ true
unfolding encoding
saved_valid s room e = go (valid s) _ _ e
  where
    go : (t : Bool) (x : Encoding) (r : Refusal) → (if t then x else Err r) ≡ Ok tt → t ≡ true
    go true x r e = refl
    go false x r e = let z : ◌≡◌ {A = ℕ} 0 1 = cc in let o : ⊥ = omega arith in absurd o

pub saved_reads_back : (s : Session) → Arrays s → (out : Bytes) → encoding s (length out) ≡ Ok tt
    → decode (take session_size (encoded_in out (encoding s (length out)) s)) ≡ decoded_to s
unfolding encoded_in over
saved_reads_back s a out e =
    let whole : length (encode s) ≡ session_size = length_encode s a.enc.size a.mac.size a.rmac.size a.command.size a.response.size in
    ap (λ x. decode (take session_size (encoded_in out x s))) e
    ∙ ap decode (take_at (encode s) (drop (length (encode s)) out) session_size whole)
    ∙ decode_encode s a (saved_valid s (length out) e)
