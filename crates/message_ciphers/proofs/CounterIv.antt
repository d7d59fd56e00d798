-- The IV is the counter under the same key: one block of each direction, written out for every key and counter.
use mathlib.Core.Path.{◌≡◌, refl}
use mathlib.Core.List.{[], ◌∷◌, ◌++◌}
use Rattle.octets.specs.Bytes.{Bytes, zeros, ◌xor◌}
use Rattle.field_padding.specs.Padding.{padded_length, padding, pad, unpad}
use Rattle.mode_cbc.specs.Cbc.{blocks, joined, encrypt_blocks, decrypt_blocks, cbc_encrypt, cbc_decrypt}
use Rattle.message_ciphers.specs.Aes.{ciph, inv_ciph, encrypt, data_in, decrypt_blocks as decryptText, decrypt}

-- data of one byte is padded to a block, which is added to the encrypted counter and encrypted
one_byte_encrypted : (k n : Bytes) → encrypt k n (0x31 ∷ []) ≡ ciph k ((0x31 ∷ 0x80 ∷ zeros 14) xor ciph k n) ++ []
unfolding encrypt cbc_encrypt blocks joined encrypt_blocks pad padding padded_length
one_byte_encrypted k n = refl

-- a block is decrypted, and added to the encrypted counter
one_block_decrypted : (k n : Bytes) → let text = (inv_ciph k (zeros 16) xor ciph k n) ++ [] in decrypt k n (zeros 16) ≡ data_in text (unpad text)
unfolding decrypt decryptText cbc_decrypt blocks joined decrypt_blocks
one_block_decrypted k n = refl
