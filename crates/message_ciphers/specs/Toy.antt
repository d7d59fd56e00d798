-- Ciphers small enough for the checker to compute, for runs of a protocol; no claim about real messages rests on them.
-- Every byte of the key, the counter and the input counts, and all 16 bytes of a MAC depend on them: a run with another
-- key, counter or chaining value gives another field.
use mathlib.Core.List.{[], ◌∷◌, ◌++◌, foldr, map}
use Rattle.std.specs.Prelude.{ℕ, ◌+◌, ◌*◌, ◌%◌, eqb, length, Option, Some}
use Rattle.octets.specs.Bytes.{Bytes, ◌⊕◌, zeros}
use Rattle.std.specs.Prelude.{if◌then◌else◌}
use Rattle.field_padding.specs.Padding.{pad, unpad}
use Rattle.message_ciphers.specs.Ciphers.{Ciphers}
use Rattle.message_ciphers.specs.Aes.{data_in}

unfoldable pub toy_hash : Bytes → ℕ
toy_hash xs = foldr (λ x a. (a * 31 + x + 7) % 65521) 1 xs

unfoldable pub toy_mac : Bytes → Bytes → Bytes
toy_mac k m =
    map (λ p. toy_hash (k ++ m) % p)
    (256 ∷ 251 ∷ 241 ∷ 239 ∷ 233 ∷ 229 ∷ 227 ∷ 223 ∷ 211 ∷ 199 ∷ 197 ∷ 193 ∷ 191 ∷ 181 ∷ 179 ∷ 173 ∷ [])

-- each byte of the padded data is xored with one byte, made of the key and the counter
unfoldable pub xor_all : ℕ → Bytes → Bytes
xor_all b xs = map (λ x. x ⊕ b) xs

unfoldable pub mask : Bytes → Bytes → ℕ
mask k n = toy_hash (k ++ n) % 256

unfoldable pub toy_encrypt : Bytes → Bytes → Bytes → Bytes
toy_encrypt k n d = if eqb (length d) 0 then [] else xor_all (mask k n) (pad d)

unfoldable pub toy_decrypt : Bytes → Bytes → Bytes → Option Bytes
toy_decrypt k n c = if eqb (length c) 0 then Some [] else data_in (xor_all (mask k n) c) (unpad (xor_all (mask k n) c))

unfoldable pub toy : Ciphers
toy = record { mac = toy_mac; encrypt = toy_encrypt; decrypt = toy_decrypt }

-- the same with a MAC that is always zeros
unfoldable pub flat : Ciphers
flat = record { mac = λ k m. zeros 16; encrypt = toy_encrypt; decrypt = toy_decrypt }
