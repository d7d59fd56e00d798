-- SP 800-38A, 5.2: the data of CBC is a sequence of complete blocks. Anything else is refused, and stays.
use Rattle.std.specs.Prelude.{Bool, ◌%◌, eqb, length, Result, Ok, Err}
use Rattle.octets.specs.Bytes.{Bytes}
use Rattle.std.specs.Prelude.{if◌then◌else◌}
use Rattle.mode_cbc.specs.declared.PartialBlock.{PartialBlock}

abbrev pub whole : Bytes → Bool
whole xs = eqb (length xs % 16) 0

unfoldable pub outcome : Bytes → Result (Unit {0}) PartialBlock
outcome xs = if whole xs then Ok tt else Err (record {})

-- f of whole blocks, and anything else as it is
unfoldable pub if_whole : (Bytes → Bytes) → Bytes → Bytes
if_whole f xs = if whole xs then f xs else xs
