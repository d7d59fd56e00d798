-- Numbers as strings of bytes, the highest byte first.
use Rattle.std.specs.Prelude.{[], ◌∷◌, ◌++◌, ℕ, zero, suc, ◌+◌, ◌*◌, ◌/◌, ◌%◌}
use Rattle.octets.specs.Bytes.{Bytes}

-- a number in that many bytes; of a number that does not fit, its lowest ones
unfoldable pub big_endian : ℕ → ℕ → Bytes
big_endian zero n = []
big_endian (suc size) n = big_endian size (n / 256) ++ n % 256 ∷ []

-- the number whose bytes are those of n and then these
unfoldable pub number_from : ℕ → Bytes → ℕ
number_from n [] = n
number_from n (b ∷ bytes) = number_from (n * 256 + b) bytes

-- the number in a string of bytes
unfoldable pub number_in : Bytes → ℕ
number_in bytes = number_from 0 bytes
