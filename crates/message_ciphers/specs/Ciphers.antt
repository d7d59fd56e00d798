-- What the calls use of the ciphers, as a record, so that nothing about AES stands in the session's proofs; and what the
-- demands need of them.
use Rattle.std.specs.Prelude.{◌≡◌, ◌⊎◌, length, Option, Some}
use Rattle.octets.specs.Bytes.{Bytes, IsBytes}
use Rattle.field_size.specs.Lengths.{ciphertext_length}

pub record Ciphers : Type 0 where
  -- the full MAC, 16 bytes, of a message under a key
  pub mac : Bytes → Bytes → Bytes
  -- data under a key and an encryption counter; of no data, nothing
  pub encrypt : Bytes → Bytes → Bytes → Bytes
  -- None where the padding is wrong
  pub decrypt : Bytes → Bytes → Bytes → Option Bytes

-- a key as an opening takes it
pub record IsKey (k : Bytes) : Type 0 where
  pub bytes : IsBytes k
  pub size : (length k ≡ 16) ⊎ (length k ≡ 32)

-- an encryption counter
pub record IsCounter (n : Bytes) : Type 0 where
  pub bytes : IsBytes n
  pub size : length n ≡ 16

pub record Laws (C : Ciphers) : Type 0 where
  pub mac_length : (k m : Bytes) → IsKey k → length (C.mac k m) ≡ 16
  pub encrypt_length : (k n d : Bytes) → IsKey k → IsCounter n → IsBytes d → length (C.encrypt k n d) ≡ ciphertext_length (length d)
  pub decrypt_encrypt : (k n d : Bytes) → IsKey k → IsCounter n → IsBytes d → C.decrypt k n (C.encrypt k n d) ≡ Some d
