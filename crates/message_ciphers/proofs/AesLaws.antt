-- AES, with CMAC and CBC, meets the laws.
use mathlib.Core.Path.{◌≡◌, refl, sym, ap, ◌∙◌}
use mathlib.Core.Bool.{Bool, true, false}
use mathlib.Core.List.{[], ◌∷◌}
use Rattle.std.specs.Prelude.{Some}
use Prim.Native.Nat.{◌<◌}
use native.Mathlib.Omega.{arith}
use borrow.Author.Tests.{ne_eqb, eqb-true, eqb-false}
use lib.Dec.{eqb}
use lib.ListN.{length}
use Rattle.octets.specs.Bytes.{Bytes, IsBytes, zeros}
use Rattle.std.specs.Prelude.{if◌then◌else◌}
use Rattle.field_padding.specs.Padding.{pad, padded_length, unpad}
use Rattle.field_padding.proofs.Lengths.{length_pad}
use Rattle.field_size.specs.Lengths.{ciphertext_length}
use Rattle.aes_key_expansion.specs.KeyExpansion.{schedule}
use Rattle.aes_key_expansion.specs.declared.KeySize.TheVariants.{Aes128, Aes256}
use Rattle.aes.specs.Aes.{aes}
use Rattle.aes.specs.BlockCipher.{IsBlock, BlockCipher}
use Rattle.aes.proofs.Block.{length_ciph}
use Rattle.aes.proofs.RoundTrip.{aes_is}
use Rattle.mode_cbc.specs.Cbc.{cbc_encrypt}
use Rattle.mode_cbc.proofs.RoundTrip.{length_cbc_encrypt, cbc_decrypt_cbc_encrypt}
use Rattle.mode_cmac.specs.Cmac.{cmac}
use Rattle.mode_cmac.proofs.Theorems.{length_cmac}
use Rattle.message_ciphers.specs.Ciphers.{IsKey, IsCounter, Laws}
use Rattle.message_ciphers.specs.Aes.{size_of, ciph, inv_ciph, encrypt, data_in, decrypt_blocks, decrypt, aes_ciphers}
use Rattle.message_ciphers.proofs.PaddedData.{padded_whole, padded_bytes, data_padded}

module _ (k n d : Bytes) (key : IsKey k) (counter : IsCounter n) (bytes : IsBytes d) where
  cipher : BlockCipher (ciph k) (inv_ciph k)
  unfolding ciph inv_ciph
  cipher = aes_is (size_of k) k key.bytes

  iv : IsBlock (ciph k n)
  iv = cipher.block n (record { size = counter.size; bytes = counter.bytes })

  empty : (xs : Bytes) → length xs ≡ 0 → xs ≡ []
  empty [] e = refl
  empty (x ∷ xs) e = let z : ⊥ = omega (arith, e) in absurd z

  encrypted_length : length (encrypt k n d) ≡ ciphertext_length (length d)
  unfolding encrypt ciphertext_length
  encrypted_length = go (eqb (length d) 0)
    where
      go : (t : Bool) → length (if t then [] else cbc_encrypt (ciph k) (ciph k n) (pad d)) ≡ (if t then 0 else padded_length (length d))
      go true = refl
      go false =
          length_cbc_encrypt (ciph k) (inv_ciph k) cipher (ciph k n) iv (pad d) (padded_whole d) (padded_bytes d bytes) ∙ length_pad d

  some_data : (length d ≡ 0 → ⊥) → 0 < length d
  some_data f = omega (arith, f)

  decrypted : decrypt k n (encrypt k n d) ≡ Some d
  unfolding encrypt decrypt decrypt_blocks padded_length
  decrypted = go (eqb (length d) 0) refl
    where
      go : (t : Bool) → eqb (length d) 0 ≡ t → decrypt k n (if t then [] else cbc_encrypt (ciph k) (ciph k n) (pad d)) ≡ Some d
      go true e = ap Some (sym (empty d (eqb-true (length d) 0 e)))
      go false e =
          let c : Bytes = cbc_encrypt (ciph k) (ciph k n) (pad d) in
          let h : 0 < length d = some_data (eqb-false (length d) 0 e) in
          let l : length c ≡ padded_length (length d) =
          length_cbc_encrypt (ciph k) (inv_ciph k) cipher (ciph k n) iv (pad d) (padded_whole d) (padded_bytes d bytes) ∙ length_pad d in
          let f : length c ≡ 0 → ⊥ = λ z. omega (arith, l, z) in
          rw (ne_eqb (length c) 0 f)
          (ap (λ (p : Bytes). data_in p (unpad p)) (cbc_decrypt_cbc_encrypt (ciph k) (inv_ciph k) cipher (ciph k n) iv (pad d) (padded_whole d) (padded_bytes d bytes))
          ∙ data_padded d h)

mac_length : (k m : Bytes) → length (cmac (ciph k) m) ≡ 16
unfolding ciph aes
mac_length k m = length_cmac (ciph k) (λ x. length_ciph (size_of k) (schedule (size_of k) k) x) m

pub aes_mac_length : (k m : Bytes) → length (aes_ciphers.mac k m) ≡ 16
unfolding aes_ciphers
aes_mac_length k m = mac_length k m

pub aes_laws : Laws aes_ciphers
unfolding aes_ciphers
aes_laws = record { mac_length = λ k m key. mac_length k m; encrypt_length = encrypted_length; decrypt_encrypt = decrypted }

-- the AES of each key length
of_16_bytes : size_of (zeros 16) ≡ Aes128
unfolding size_of
of_16_bytes = refl

of_32_bytes : size_of (zeros 32) ≡ Aes256
unfolding size_of
of_32_bytes = refl
