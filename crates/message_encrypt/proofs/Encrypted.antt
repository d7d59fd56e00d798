-- The padded data in a buffer, encrypted in place, is the encryption of the data.
use mathlib.Core.Path.{◌≡◌, refl, sym, ap, ap₂, ◌∙◌}
use mathlib.Core.Bool.{Bool, true, false}
use mathlib.Core.List.{[], ◌++◌}
use Prim.Native.Nat.{ℕ, ◌<◌}
use native.Mathlib.Nat.{zero-add}
use native.Mathlib.Omega.{arith}
use borrow.Author.Tests.{eq-eqb, ne_eqb, eqb-true, eqb-false}
use lib.Dec.{eqb}
use lib.ListN.{length, take, drop}
use lib.Seq.{drop-append_seam}
use Rattle.octets.specs.Bytes.{Bytes}
use Rattle.std.specs.Prelude.{if◌then◌else◌}
use Rattle.octets.specs.Write.{over, Wrote}
use Rattle.octets.proofs.Writing.{wrote_all, wrote_start, put_start}
use Rattle.field_padding.specs.Padding.{pad, padded_length}
use Rattle.field_padding.proofs.Lengths.{length_pad}
use Rattle.field_size.specs.Lengths.{ciphertext_length}
use Rattle.aes_key_expansion.specs.KeyExpansion.{schedule}
use Rattle.aes.specs.Aes.{ciph as scheduleCiph}
use Rattle.aes.proofs.Block.{length_ciph}
use Rattle.mode_cbc.specs.Cbc.{cbc_encrypt}
use Rattle.mode_cbc.proofs.RoundTrip.{length_cbc}
use Rattle.session_suite.specs.StoredKeys.{key_in}
use Rattle.session_suite.specs.declared.Suite.{Suite}
use Rattle.message_ciphers.specs.Aes.{encrypt}
use Rattle.message_key.specs.SessionKeys.{key_size}
use Rattle.message_key.proofs.SessionCiphers.{same_cipher}

-- of no data, nothing
pub encrypt_none : (k counter d : Bytes) → length d ≡ 0 → encrypt k counter d ≡ []
unfolding encrypt
encrypt_none k counter d e = rw (eq-eqb (length d) 0 e)

-- written over once more, with as many bytes
over_over : (xs ys zs : Bytes) → length zs ≡ length ys → over (over xs ys) zs ≡ over xs zs
unfolding over
over_over xs ys zs e =
    ap (λ (n : ℕ). zs ++ drop n (ys ++ drop (length ys) xs)) e
    ∙ ap (λ (l : Bytes). zs ++ l) (drop-append_seam ys (drop (length ys) xs))
    ∙ ap (λ (n : ℕ). zs ++ drop n xs) (sym e)

module _ (suite : Suite) (key counter d : Bytes) (h : length key ≡ 32) (some : 0 < length d) where
  abbrev c : Bytes → Bytes
  c = scheduleCiph (key_size suite) (schedule (key_size suite) key)

  encrypt_is : cbc_encrypt c (c counter) (pad d) ≡ encrypt (key_in suite key) counter d
  unfolding encrypt
  encrypt_is =
      ap (λ (f : Bytes → Bytes). cbc_encrypt f (f counter) (pad d)) (same_cipher suite key h)
      ∙ sym (rw (ne_eqb (length d) 0 (λ z. omega (arith, z))))

  length_is : length (cbc_encrypt c (c counter) (pad d)) ≡ length (pad d)
  unfolding padded_length
  length_is =
      length_cbc c (length_ciph (key_size suite) (schedule (key_size suite) key)) (c counter) (pad d) ∙ omega (arith, length_pad d)

  pub encrypted_in : (xs ys zs : Bytes) (n : ℕ) → Wrote xs 0 (pad d) n ys → zs ≡ over ys (cbc_encrypt c (c counter) (take n ys))
      → Wrote xs 0 (encrypt (key_in suite key) counter d) n zs
  unfolding over
  encrypted_in xs ys zs n w e =
      let e0 : n ≡ length (pad d) = w.end ∙ zero-add (length (pad d)) in
      let held : ys ≡ over xs (pad d) = wrote_all w in
      let start : take n ys ≡ pad d = wrote_start w in
      let x : Bytes = cbc_encrypt c (c counter) (pad d) in
      record {
        end = e0 ∙ sym (length_is) ∙ ap length encrypt_is ∙ sym (zero-add (length (encrypt (key_in suite key) counter d)));
        bytes =
            e
            ∙ ap₂ (λ (l t : Bytes). over l (cbc_encrypt c (c counter) t)) held start
            ∙ over_over xs (pad d) x length_is
            ∙ ap (over xs) encrypt_is
            ∙ sym (put_start xs (encrypt (key_in suite key) counter d));
      }

-- as many bytes as the formula says
pub length_encrypt : (suite : Suite) (key counter d : Bytes) → length key ≡ 32 → length (encrypt (key_in suite key) counter d) ≡ ciphertext_length (length d)
unfolding ciphertext_length
length_encrypt suite key counter d h = go (eqb (length d) 0) refl
  where
    go : (t : Bool) → eqb (length d) 0 ≡ t → length (encrypt (key_in suite key) counter d) ≡ (if t then 0 else padded_length (length d))
    go true e = ap length (encrypt_none (key_in suite key) counter d (eqb-true (length d) 0 e))
    go false e =
        let f = eqb-false (length d) 0 e in
        let some : 0 < length d = omega (arith, f) in
        sym (ap length (encrypt_is suite key counter d h some)) ∙ length_is suite key counter d h some ∙ length_pad d
