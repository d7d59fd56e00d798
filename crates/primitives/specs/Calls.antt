-- The calls of c/include/primitives.h: AES, CBC and CMAC under a key of 16 or 32 bytes.
use Rattle.std.specs.Prelude.{Bool, ◌&&◌, ◌++◌, ℕ, eqb, length, Option, Some, None}
use Rattle.octets.specs.Bytes.{Bytes, zeros}
use Rattle.std.specs.Prelude.{if◌then◌else◌}
use Rattle.octets.specs.Write.{over}
use Rattle.aes.specs.Aes.{aes, inv_aes}
use Rattle.aes_key_expansion.specs.ExpandedKey.{expanded_key}
use Rattle.aes_key_expansion.specs.declared.ExpandedKey.{ExpandedKey}
use Rattle.aes_key_expansion.specs.declared.KeySize.{KeySize}
use Rattle.aes_key_expansion.specs.declared.KeySize.TheVariants.{Aes128, Aes256}
use Rattle.mode_cbc.specs.Cbc.{cbc_encrypt, cbc_decrypt}
use Rattle.mode_cbc.specs.Whole.{whole}
use Rattle.mode_cmac.specs.Cmac.{cmac}

-- the size of a key of that length, if there is one
unfoldable pub key_size : ℕ → Option KeySize
key_size n = if eqb n 16 then Some Aes128 else (if eqb n 32 then Some Aes256 else None)

-- a key of that size, which stands at the start of 32 bytes, made ready for the rounds
abbrev pub expanded : KeySize → Bytes → ExpandedKey
expanded size key = expanded_key size (over (zeros 32) key)

-- as long as a block
abbrev pub block_long : Bytes → Bool
block_long b = eqb (length b) 16

unfoldable pub with_key : {A : Type 0} → Option KeySize → A → (KeySize → A) → A
with_key None bad good = bad
with_key (Some size) bad good = good size

-- 12: no key has that length; 7: the other lengths are not as they should be; 0: done
unfoldable pub answer : Bytes → Bool → ℕ
answer key lengths = with_key (key_size (length key)) 12 (λ size. if lengths then 0 else 7)

-- what the call's buffer holds afterwards: the result under the key, which stands at the start of 32 bytes, or what it held
unfoldable pub buffer : Bytes → Bool → (KeySize → Bytes → Bytes) → Bytes → Bytes
buffer key lengths result held =
    with_key (key_size (length key)) held (λ size. if lengths then result size (over (zeros 32) key) else held)

-- what each call answers, and what its buffer holds afterwards

abbrev pub aes_answer : Bytes → Bytes → ℕ
aes_answer key block = answer key (block_long block)

abbrev pub aes_encrypt_buffer : Bytes → Bytes → Bytes
aes_encrypt_buffer key block = buffer key (block_long block) (λ size k. aes size k block) block

abbrev pub aes_decrypt_buffer : Bytes → Bytes → Bytes
aes_decrypt_buffer key block = buffer key (block_long block) (λ size k. inv_aes size k block) block

abbrev pub cbc_answer : Bytes → Bytes → Bytes → ℕ
cbc_answer key iv xs = answer key (block_long iv && whole xs)

abbrev pub cbc_encrypt_buffer : Bytes → Bytes → Bytes → Bytes
cbc_encrypt_buffer key iv xs = buffer key (block_long iv && whole xs) (λ size k. cbc_encrypt (aes size k) iv xs) xs

abbrev pub cbc_decrypt_buffer : Bytes → Bytes → Bytes → Bytes
cbc_decrypt_buffer key iv xs = buffer key (block_long iv && whole xs) (λ size k. cbc_decrypt (inv_aes size k) iv xs) xs

abbrev pub cmac_answer : Bytes → Bytes → ℕ
cmac_answer key mac = answer key (block_long mac)

abbrev pub cmac_buffer : Bytes → Bytes → Bytes → Bytes → Bytes
cmac_buffer key head rest mac = buffer key (block_long mac) (λ size k. cmac (aes size k) (head ++ rest)) mac
