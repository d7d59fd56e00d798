-- The ciphertext in memory, decrypted in place, has the data of the message at its start; and what is then written out.
use mathlib.Core.Path.{◌≡◌, refl, sym, ap, ap₂, ◌∙◌}
use Rattle.std.specs.Prelude.{Option, None, Some}
use Prim.Native.Nat.{ℕ, ◌<◌, ◌≤◌}
use native.Mathlib.Nat.{zero-add}
use native.Mathlib.Omega.{arith}
use borrow.Author.Tests.{eq-eqb, ne_eqb}
use lib.ListN.{length, take, drop}
use lib.Seq.{take-take, take_at, length-take-le}
use Rattle.octets.specs.Bytes.{Bytes}
use Rattle.octets.specs.Write.{over, Wrote}
use Rattle.octets.proofs.Writing.{wrote_start}
use Rattle.field_padding.specs.Padding.{unpad}
use Rattle.field_padding.proofs.Unpadding.{data_short}
use Rattle.aes_key_expansion.specs.KeyExpansion.{schedule}
use Rattle.aes.specs.Aes.{ciph as scheduleCiph, inv_ciph as scheduleInvCiph}
use Rattle.mode_cbc.specs.Cbc.{cbc_decrypt}
use Rattle.session_suite.specs.StoredKeys.{key_in}
use Rattle.session_suite.specs.declared.Suite.{Suite}
use Rattle.message_ciphers.specs.Aes.{data_in, decrypt_blocks, decrypt}
use Rattle.message_key.specs.SessionKeys.{key_size}
use Rattle.message_key.proofs.SessionCiphers.{same_cipher, same_inv_cipher}
use Rattle.message_answer.specs.Answer.{buffer}
use Rattle.message_verify.specs.Reading.{text_of}
use Rattle.message_verify.specs.Decryption.{data_length, Decrypted, unpadded}

-- the data at the start of a longer string
data_at_start : (text padded : Bytes) (n : ℕ) → take n text ≡ padded → length padded ≡ n → Decrypted text n (unpad padded) (data_in padded (unpad padded))
unfolding data_in
data_at_start text padded n s l = go (unpad padded) refl
  where
    go : (r : Option ℕ) → unpad padded ≡ r → Decrypted text n r (data_in padded r)
    go (Some k) e =
        let h : k ≤ n = omega (arith, data_short padded k e, l) in
        record { is = ap Some (sym (take-take k n text h) ∙ ap (take k) s); within = h }
    go None e = record { is = refl; within = omega arith }

module _ (suite : Suite) (key counter ct : Bytes) (h : length key ≡ 32) where
  -- no bytes are the encrypted form of no data
  pub no_blocks : (text : Bytes) → length ct ≡ 0 → Decrypted text (length ct) (Some 0) (decrypt (key_in suite key) counter ct)
  unfolding decrypt data_in
  no_blocks text e = record { is = rw (eq-eqb (length ct) 0 e); within = omega arith }

  abbrev c : Bytes → Bytes
  c = scheduleCiph (key_size suite) (schedule (key_size suite) key)

  abbrev d : Bytes → Bytes
  d = scheduleInvCiph (key_size suite) (schedule (key_size suite) key)

  decrypt_is : 0 < length ct → decrypt (key_in suite key) counter ct ≡ data_in (cbc_decrypt d (c counter) ct) (unpad (cbc_decrypt d (c counter) ct))
  unfolding decrypt decrypt_blocks
  decrypt_is there =
      rw (ne_eqb (length ct) 0 (λ z. omega (arith, z)))
      (ap₂ (λ (f g : Bytes → Bytes). data_in (cbc_decrypt g (f counter) ct) (unpad (cbc_decrypt g (f counter) ct)))
      (sym (same_cipher suite key h)) (sym (same_inv_cipher suite key h)))

  -- copied, decrypted in place, and unpadded
  pub in_memory : 0 < length ct → (held copied text : Bytes) (n : ℕ) (r : Option ℕ) → Wrote held 0 ct n copied
      → text ≡ over copied (cbc_decrypt d (c counter) (take n copied)) → length (cbc_decrypt d (c counter) (take n copied)) ≡ n
      → r ≡ unpad (take n text) → Decrypted text (length ct) r (decrypt (key_in suite key) counter ct)
  unfolding over
  in_memory there held copied text n r w e l u =
      let e0 : n ≡ length ct = w.end ∙ zero-add (length ct) in
      let start : take n copied ≡ ct = wrote_start w in
      let padded : Bytes = cbc_decrypt d (c counter) ct in
      let same : cbc_decrypt d (c counter) (take n copied) ≡ padded = ap (cbc_decrypt d (c counter)) start in
      let l2 : length padded ≡ n = sym (ap length same) ∙ l in
      let front : take n text ≡ padded = ap (take n) (e ∙ ap (over copied) same) ∙ take_at padded (drop (length padded) copied) n l2 in
      rw (u ∙ ap unpad front, decrypt_is there, ← e0) (data_at_start text padded n front l2)

-- ---- written out

pub data_within : (text : Bytes) (n m : ℕ) (r : Option ℕ) (d : Option Bytes) → Decrypted text n r d → r ≡ Some m → m ≤ n
data_within text n m r d k e = rw (ap data_length e) at k.within

pub nothing_out : (text held : Bytes) (n : ℕ) (r : Option ℕ) (d : Option Bytes) → Decrypted text n r d → r ≡ None
    → (◌≡◌ {A = Option ℕ} None (unpadded d)) × (held ≡ buffer (λ (x : Bytes). x) held (text_of d))
unfolding data_in text_of buffer
nothing_out text held n r d k e = let q : d ≡ None = sym k.is ∙ ap (data_in text) e in rw q (refl, refl)

pub data_out : (text held out : Bytes) (n m : ℕ) (r : Option ℕ) (d : Option Bytes) → Decrypted text n r d → n ≤ length text → (e : r ≡ Some m)
    → out ≡ over held (take m text) → (◌≡◌ {A = Option ℕ} (Some m) (unpadded d)) × (out ≡ buffer (λ (x : Bytes). x) held (text_of d))
unfolding data_in text_of buffer
data_out text held out n m r d k h e o =
    let q : d ≡ Some (take m text) = sym k.is ∙ ap (data_in text) e in
    rw q (ap Some (sym (length-take-le m text (omega (arith, data_within text n m r d k e)))), o)
