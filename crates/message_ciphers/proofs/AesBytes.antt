-- Under a key of bytes, AES with CMAC and CBC gives bytes: a MAC of any message, a ciphertext of any data, and the data in a
-- ciphertext of bytes.
use mathlib.Core.Path.{◌≡◌, subst}
use mathlib.Core.Bool.{Bool, true, false}
use mathlib.Core.List.{[]}
use Rattle.std.specs.Prelude.{Option, None, Some}
use Prim.Native.Nat.{ℕ}
use native.Mathlib.Omega.{arith}
use lib.Dec.{eqb}
use lib.ListN.{length, take}
use Rattle.octets.specs.Bytes.{Bytes, IsBytes}
use Rattle.std.specs.Prelude.{if◌then◌else◌}
use Rattle.octets.proofs.ByteStrings.{bytes_nil, bytes_taken}
use Rattle.field_padding.specs.Padding.{pad, unpad}
use Rattle.aes.proofs.Block.{aes_block, inv_aes_block}
use Rattle.mode_cbc.specs.Cbc.{cbc_encrypt, cbc_decrypt}
use Rattle.mode_cbc.proofs.GivesBytes.{cbc_encrypt_bytes, cbc_decrypt_bytes}
use Rattle.mode_cmac.proofs.Theorems.{cmac_bytes}
use Rattle.message_ciphers.specs.Aes.{size_of, ciph, inv_ciph, encrypt, data_in, decrypt_blocks, decrypt, aes_ciphers}

-- the data, where there is some, is bytes
Gives : Option Bytes → Type 0
Gives a = (d : Bytes) → a ≡ Some d → IsBytes d

gives_some : (d : Bytes) → IsBytes d → Gives (Some d)
unfolding Gives
gives_some d h e q = let p : d ≡ e = cc in subst IsBytes p h

gives_none : Gives None
unfolding Gives
gives_none d q = let z : ◌≡◌ {A = ℕ} 0 1 = cc in let o : ⊥ = omega arith in absurd o

module _ (k : Bytes) (key : IsBytes k) where
  ciph_bytes : (x : Bytes) → IsBytes (ciph k x)
  unfolding ciph
  ciph_bytes x = (aes_block (size_of k) k key x).bytes

  inv_ciph_bytes : (x : Bytes) → IsBytes (inv_ciph k x)
  unfolding inv_ciph
  inv_ciph_bytes x = (inv_aes_block (size_of k) k key x).bytes

  pub aes_mac_bytes : (m : Bytes) → IsBytes (aes_ciphers.mac k m)
  unfolding aes_ciphers
  aes_mac_bytes m = cmac_bytes (ciph k) ciph_bytes m

  pub aes_encrypt_bytes : (n d : Bytes) → IsBytes (aes_ciphers.encrypt k n d)
  unfolding aes_ciphers encrypt
  aes_encrypt_bytes n d = go (eqb (length d) 0)
    where
      go : (t : Bool) → IsBytes (if t then [] else cbc_encrypt (ciph k) (ciph k n) (pad d))
      go true = bytes_nil
      go false = cbc_encrypt_bytes (ciph k) ciph_bytes (ciph k n) (pad d)

  data_bytes : (padded : Bytes) → IsBytes padded → (u : Option ℕ) → Gives (data_in padded u)
  unfolding data_in
  data_bytes padded h (Some n) = gives_some (take n padded) (bytes_taken n padded h)
  data_bytes padded h None = gives_none

  pub aes_decrypt_bytes : (n c : Bytes) → IsBytes c → (d : Bytes) → aes_ciphers.decrypt k n c ≡ Some d → IsBytes d
  unfolding aes_ciphers decrypt decrypt_blocks Gives
  aes_decrypt_bytes n c h = go (eqb (length c) 0)
    where
      go : (t : Bool) → Gives (if t then Some [] else decrypt_blocks k n c)
      go true = gives_some [] bytes_nil
      go false =
          let padded = cbc_decrypt (inv_ciph k) (ciph k n) c in
          data_bytes padded (cbc_decrypt_bytes (inv_ciph k) inv_ciph_bytes (ciph k n) c (ciph_bytes n) h) (unpad padded)
