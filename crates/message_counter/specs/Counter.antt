-- SP 800-73-4 Part 2, 4.2.2: the encryption counter, 16 bytes.
use Rattle.std.specs.Prelude.{◌∷◌, ℕ, drop}
use Rattle.octets.specs.Bytes.{Bytes}
use Rattle.octets_numbers.specs.BigEndian.{big_endian}

-- command number i uses i
unfoldable pub command_counter : ℕ → Bytes
command_counter i = big_endian 16 i

-- and its response the same with '80' as its first byte
unfoldable pub response_counter : ℕ → Bytes
response_counter i = 0x80 ∷ drop 1 (command_counter i)
