-- A fragment that is given passed its tests; one that is refused is refused by the first that fails.
-- Assumes nothing.
use mathlib.Core.Path.{◌≡◌, refl, sym, ap}
use Prim.Native.Nat.{ℕ, ◌≤◌, ◌<◌}
use native.Mathlib.Omega.{arith}
use borrow.Author.Tests.{leb-true, ltb-true}
use lib.ListN.{length}
use Rattle.octets.specs.Bytes.{Bytes}
use Rattle.refusal.specs.declared.Refusal.{Refusal}
use Rattle.std.specs.Prelude.{Ok, Err}
use Rattle.apdu.specs.declared.StatusWord.{StatusWord}
use Rattle.message_answer.specs.Answer.{Answer, refused, gave}
use Rattle.message_answer.proofs.Required.{require_gave}
use Rattle.chain_response.specs.Fragment.{next, fragment, fragment_response, fragment_answer}
use Rattle.chain_response.specs.declared.ResponseFragment.{ResponseFragment}

record Given (a : Answer Bytes) (n end : ℕ) : Type 0 where
  pub bytes : Bytes
  pub gives : a ≡ gave bytes
  pub ends : end ≡ n

was_given : (a : Answer Bytes) (n len end : ℕ) → fragment_answer n a ≡ Ok (record { len = len; next = end }) → Given a n end
was_given (refused r) n len end e = let z : ◌≡◌ {A = ℕ} 0 1 = cc in let o : ⊥ = omega arith in absurd o
was_given (gave bytes) n len end e =
    let p : ◌≡◌ {A = ResponseFragment} (record { len = length bytes; next = n }) (record { len = len; next = end }) = cc in
    record { bytes = bytes; gives = refl; ends = sym (ap (λ (f : ResponseFragment). f.next) p) }

pub was_refused : (a : Answer Bytes) (n : ℕ) (r : Refusal) → fragment_answer n a ≡ Err r → a ≡ refused r
was_refused (refused q) n r e = let p : q ≡ r = cc in ap refused p
was_refused (gave bytes) n r e = let z : ◌≡◌ {A = ℕ} 0 1 = cc in let o : ⊥ = omega arith in absurd o

pub record MayFragment (sw : StatusWord) (field : Bytes) (at le room end : ℕ) : Type 0 where
  pub some : at < length field
  pub fits : length (fragment sw field at le) ≤ room
  pub given : fragment_response sw field at le room ≡ gave (fragment sw field at le)
  pub ends : end ≡ next field at le

pub may_fragment : (sw : StatusWord) (field : Bytes) (at le room len end : ℕ) → fragment_answer (next field at le) (fragment_response sw field at le room) ≡ Ok (record { len = len; next = end })
    → MayFragment sw field at le room end
unfolding fragment_response
may_fragment sw field at le room len end e =
    let g = was_given (fragment_response sw field at le room) (next field at le) len end e in
    let a = require_gave _ _ _ g.bytes g.gives in
    let b = require_gave _ _ _ g.bytes a.1 in
    let c = require_gave _ _ _ g.bytes b.1 in
    let d = require_gave _ _ _ g.bytes c.1 in
    record { some = ltb-true _ _ c.0; fits = leb-true _ _ d.0; given = (cc); ends = g.ends }
