-- How long the encrypted data and its object are at most, and when there is any: for the sums of the lengths, and for the calls that check the
-- room.
use mathlib.Core.Path.{◌≡◌, refl, sym, ◌∙◌}
use mathlib.Core.Bool.{Bool, true, false}
use Prim.Native.Nat.{ℕ, ◌+◌, ◌*◌, ◌/◌, ◌<◌, ◌≤◌}
use native.Mathlib.Omega.{arith}
use borrow.Author.Tests.{lt-ltb, le-ltb, eqb-true, eqb-false}
use lib.Dec.{eqb, ltb}
use lib.ListN.{length}
use Rattle.std.specs.Prelude.{if◌then◌else◌}
use Rattle.field_padding.specs.Padding.{padded_length}
use Rattle.field_ber_length.specs.Length.{length_field}
use Rattle.field_ber_length.proofs.LengthForms.{length_field_most}
use Rattle.field_size.specs.Lengths.{ciphertext_length, encrypted_data_length}

pub data_most : (e : ℕ) → encrypted_data_length e ≤ e + 5
unfolding encrypted_data_length
data_most e = go (eqb e 0)
  where
    go : (t : Bool) → (if t then 0 else 2 + length (length_field (e + 1)) + e) ≤ e + 5
    go true = omega arith
    go false = omega (arith, length_field_most (e + 1))

pub ciphertext_most : (p : ℕ) → p < 65536 → ciphertext_length p ≤ 65536
unfolding ciphertext_length padded_length
ciphertext_most p h = go (eqb p 0)
  where
    go : (t : Bool) → (if t then 0 else 16 * (p / 16 + 1)) ≤ 65536
    go true = omega arith
    go false = omega arith

-- there is encrypted data exactly where there is data
pub some_encrypted : (p : ℕ) → ltb 0 (ciphertext_length p) ≡ ltb 0 p
unfolding ciphertext_length padded_length
some_encrypted p = go (eqb p 0) refl
  where
    go : (t : Bool) → eqb p 0 ≡ t → ltb 0 (if t then 0 else 16 * (p / 16 + 1)) ≡ ltb 0 p
    go true e = sym (le-ltb 0 p (omega (arith, eqb-true p 0 e)))
    go false e =
        let f : p ≡ 0 → ⊥ = eqb-false p 0 e in
        lt-ltb 0 (16 * (p / 16 + 1)) (omega arith) ∙ sym (lt-ltb 0 p (omega (arith, f)))
