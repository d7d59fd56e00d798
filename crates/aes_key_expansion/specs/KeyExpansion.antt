-- FIPS 197, 5.2: KeyExpansion, stated over the number nk of the key's words.
use Rattle.std.specs.Prelude.{◌&&◌, List, [], ◌∷◌, ◌++◌, ℕ, zero, suc, ◌+◌, ◌*◌, ◌-◌, ◌/◌, ◌%◌, eqb, ltb, get_or, replicate}
use Rattle.octets.specs.Bytes.{Bytes, zeros}
use Rattle.std.specs.Prelude.{if◌then◌else◌}
use Rattle.aes_gf.specs.Field.{x_times}
use Rattle.aes_state.specs.State.{Word, word, add_word}
use Rattle.aes_sub_bytes.specs.SubBytes.{sub_word}
use Rattle.aes_key_expansion.specs.KeySizes.{nk, nr}
use Rattle.aes_key_expansion.specs.declared.KeySize.{KeySize}

-- RotWord([a0, a1, a2, a3]) = [a1, a2, a3, a0]
abbrev pub rot_word : Word → Word
rot_word a = word (λ i. get_or a ((i + 1) % 4) 0)

-- x^j in GF(2^8)
unfoldable pub x_power : ℕ → ℕ
x_power zero = 1
x_power (suc j) = x_times (x_power j)

-- Rcon[j] = [x^(j-1), {00}, {00}, {00}]
abbrev pub rcon : ℕ → Word
rcon j = x_power (j - 1) ∷ 0 ∷ 0 ∷ 0 ∷ []

-- what is added to w[i - Nk], from temp = w[i - 1]
abbrev pub temp : ℕ → ℕ → Word → Word
temp n i t =
    if eqb (i % n) 0 then add_word (sub_word (rot_word t)) (rcon (i / n)) else
    (if ltb 6 n && eqb (i % n) 4 then sub_word t else t)

-- word i of the key
unfoldable pub key_word : Bytes → ℕ → Word
key_word key i = word (λ j. get_or key (4 * i + j) 0)

-- w[i], from the words before it
abbrev pub next_word : ℕ → Bytes → List Word → ℕ → Word
next_word n key w i =
    if ltb i n then key_word key i else add_word (get_or w (i - n) []) (temp n i (get_or w (i - 1) []))

-- w[0], .., w[i - 1]
unfoldable pub words : ℕ → Bytes → ℕ → List Word
words n key zero = []
words n key (suc i) = words n key i ++ (next_word n key (words n key i) i ∷ [])

-- w[0], .., w[4 * Nr + 3], of the first 4 * Nk bytes of key
unfoldable pub key_expansion : KeySize → Bytes → List Word
key_expansion size key = words (nk size) key (4 * nr size + 4)

-- the same in an array of 60 words, those that are not used being zero
unfoldable pub schedule : KeySize → Bytes → List Word
schedule size key = key_expansion size key ++ replicate (60 - (4 * nr size + 4)) (zeros 4)
