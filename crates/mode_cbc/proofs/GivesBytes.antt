-- CBC gives bytes under a block cipher that gives bytes: encryption of anything, and decryption of bytes.
use mathlib.Core.List.{List, [], ◌∷◌}
use Prim.Native.Nat.{ℕ, zero, suc, ◌/◌}
use lib.ListN.{length, take, drop}
use Rattle.octets.specs.Bytes.{Bytes, IsBytes, ◌xor◌}
use Rattle.octets.proofs.ByteStrings.{bytes_nil, bytes_append, bytes_taken, bytes_drop}
use Rattle.octets.proofs.XorBytes.{bytes_xor}
use Rattle.mode_cbc.specs.Cbc.{blocks, joined, encrypt_blocks, decrypt_blocks, cbc_encrypt, cbc_decrypt}

module _ (ciph : Bytes → Bytes) (bytes : (x : Bytes) → IsBytes (ciph x)) where
  encrypted : (iv : Bytes) (ps : List Bytes) → IsBytes (joined (encrypt_blocks ciph iv ps))
  unfolding encrypt_blocks joined
  encrypted iv [] = bytes_nil
  encrypted iv (p ∷ ps) = bytes_append (ciph (p xor iv)) _ (bytes (p xor iv)) (encrypted (ciph (p xor iv)) ps)

  pub cbc_encrypt_bytes : (iv plaintext : Bytes) → IsBytes (cbc_encrypt ciph iv plaintext)
  unfolding cbc_encrypt
  cbc_encrypt_bytes iv plaintext = encrypted iv (blocks (length plaintext / 16) plaintext)

module _ (inv_ciph : Bytes → Bytes) (bytes : (x : Bytes) → IsBytes (inv_ciph x)) where
  decrypted : (n : ℕ) (iv xs : Bytes) → IsBytes iv → IsBytes xs → IsBytes (joined (decrypt_blocks inv_ciph iv (blocks n xs)))
  unfolding blocks decrypt_blocks joined
  decrypted zero iv xs hv hx = bytes_nil
  decrypted (suc n) iv xs hv hx =
      bytes_append (inv_ciph (take 16 xs) xor iv) _ (bytes_xor (inv_ciph (take 16 xs)) iv (bytes (take 16 xs)) hv)
      (decrypted n (take 16 xs) (drop 16 xs) (bytes_taken 16 xs hx) (bytes_drop 16 xs hx))

  pub cbc_decrypt_bytes : (iv ciphertext : Bytes) → IsBytes iv → IsBytes ciphertext → IsBytes (cbc_decrypt inv_ciph iv ciphertext)
  unfolding cbc_decrypt
  cbc_decrypt_bytes iv ciphertext hv hx = decrypted (length ciphertext / 16) iv ciphertext hv hx
