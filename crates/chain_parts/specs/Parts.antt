-- A string of bytes in parts: how many there are, ⌈F / p⌉ (rule 7.1), and where a part ends.
use Rattle.std.specs.Prelude.{ℕ, ◌+◌, ◌-◌, ◌/◌, length, take, drop}
use Rattle.octets.specs.Bytes.{Bytes}

-- ⌈n / p⌉
abbrev pub ceiling : ℕ → ℕ → ℕ
ceiling n p = (n + (p - 1)) / p

-- the index behind the part that starts at an index and has at most so many bytes
abbrev pub part_end : Bytes → ℕ → ℕ → ℕ
part_end bytes start most = start + length (take most (drop start bytes))
