-- SP 800-73-4 Part 2, 4.2.2 and 4.2.3: the real ciphers, AES with CMAC and CBC.
use Rattle.std.specs.Prelude.{ℕ, [], eqb, length, take, Option, Some, option_map}
use Rattle.octets.specs.Bytes.{Bytes}
use Rattle.std.specs.Prelude.{if◌then◌else◌}
use Rattle.field_padding.specs.Padding.{pad, unpad}
use Rattle.aes.specs.Aes.{aes, inv_aes}
use Rattle.aes_key_expansion.specs.declared.KeySize.{KeySize}
use Rattle.aes_key_expansion.specs.declared.KeySize.TheVariants.{Aes128, Aes256}
use Rattle.mode_cbc.specs.Cbc.{cbc_encrypt, cbc_decrypt}
use Rattle.mode_cmac.specs.Cmac.{cmac}
use Rattle.message_ciphers.specs.Ciphers.{Ciphers}

-- AES-128 under a key of 16 bytes, AES-256 under one of 32
unfoldable pub size_of : Bytes → KeySize
size_of k = if eqb (length k) 16 then Aes128 else Aes256

unfoldable pub ciph : Bytes → Bytes → Bytes
ciph k = aes (size_of k) k

unfoldable pub inv_ciph : Bytes → Bytes → Bytes
inv_ciph k = inv_aes (size_of k) k

-- CBC's IV is the counter encrypted with the same key
unfoldable pub encrypt : Bytes → Bytes → Bytes → Bytes
encrypt k n d = if eqb (length d) 0 then [] else cbc_encrypt (ciph k) (ciph k n) (pad d)

-- the data before the padding
unfoldable pub data_in : Bytes → Option ℕ → Option Bytes
data_in padded end = option_map (λ n. take n padded) end

unfoldable pub decrypt_blocks : Bytes → Bytes → Bytes → Option Bytes
decrypt_blocks k n c = let padded = cbc_decrypt (inv_ciph k) (ciph k n) c in data_in padded (unpad padded)

unfoldable pub decrypt : Bytes → Bytes → Bytes → Option Bytes
decrypt k n c = if eqb (length c) 0 then Some [] else decrypt_blocks k n c

unfoldable pub aes_ciphers : Ciphers
aes_ciphers = record { mac = λ k m. cmac (ciph k) m; encrypt = encrypt; decrypt = decrypt }
