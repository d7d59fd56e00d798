-- The toy ciphers keep the laws of ciphers.
use mathlib.Core.Path.{◌≡◌, refl, sym, ap, ap₂, ◌∙◌}
use mathlib.Core.Bool.{Bool, true, false}
use mathlib.Core.List.{[], ◌∷◌}
use Rattle.std.specs.Prelude.{Some}
use Prim.Native.Nat.{ℕ}
use native.Mathlib.Omega.{arith}
use borrow.Author.Tests.{eqb-true, eqb-false, ne_eqb}
use lib.Dec.{eqb}
use lib.ListN.{length, length-map}
use Rattle.octets.specs.Bytes.{Bytes, ◌⊕◌}
use Rattle.std.specs.Prelude.{if◌then◌else◌}
use Rattle.octets.proofs.Xor.{xor_undo}
use Rattle.field_padding.specs.Padding.{pad, padded_length}
use Rattle.field_padding.proofs.Lengths.{length_pad}
use Rattle.field_size.specs.Lengths.{ciphertext_length}
use Rattle.message_ciphers.specs.Ciphers.{Laws}
use Rattle.message_ciphers.specs.Toy.{toy_mac, xor_all, mask, toy_encrypt, toy_decrypt, toy}
use Rattle.message_ciphers.proofs.PaddedData.{data_padded}

no_data : (d : Bytes) → length d ≡ 0 → d ≡ []
no_data [] e = refl
no_data (b ∷ d) e = let z : ⊥ = omega (arith, e) in absurd z

xor_undone : (b : ℕ) (xs : Bytes) → xor_all b (xor_all b xs) ≡ xs
unfolding xor_all
xor_undone b [] = refl
xor_undone b (x ∷ xs) = ap₂ (λ (y : ℕ) (ys : Bytes). y ∷ ys) (xor_undo x b) (xor_undone b xs)

length-xor_all : (b : ℕ) (xs : Bytes) → length (xor_all b xs) ≡ length xs
unfolding xor_all
length-xor_all b xs = length-map xs (λ x. x ⊕ b)

toy_length : (k n d : Bytes) → length (toy_encrypt k n d) ≡ ciphertext_length (length d)
unfolding toy_encrypt ciphertext_length
toy_length k n d = go (eqb (length d) 0)
  where
    go : (t : Bool) → length (if t then [] else xor_all (mask k n) (pad d)) ≡ (if t then 0 else padded_length (length d))
    go true = refl
    go false = length-xor_all (mask k n) (pad d) ∙ length_pad d

toy_undone : (k n d : Bytes) → toy_decrypt k n (toy_encrypt k n d) ≡ Some d
unfolding toy_encrypt toy_decrypt padded_length
toy_undone k n d = go (eqb (length d) 0) refl
  where
    go : (t : Bool) → eqb (length d) 0 ≡ t → toy_decrypt k n (if t then [] else xor_all (mask k n) (pad d)) ≡ Some d
    go true e = ap Some (sym (no_data d (eqb-true (length d) 0 e)))
    go false e =
        let f : length d ≡ 0 → ⊥ = eqb-false (length d) 0 e in
        let g : length (xor_all (mask k n) (pad d)) ≡ 0 → ⊥ = λ z. omega (arith, length_pad d, length-xor_all (mask k n) (pad d), z) in
        rw (ne_eqb (length (xor_all (mask k n) (pad d))) 0 g, xor_undone (mask k n) (pad d)) (data_padded d (omega (arith, f)))

pub toy_laws : Laws toy
unfolding toy toy_mac toy_encrypt toy_decrypt
toy_laws = record { mac_length = λ k m key. refl; encrypt_length = λ k n d key c y. toy_length k n d; decrypt_encrypt = λ k n d key c y. toy_undone k n d }
