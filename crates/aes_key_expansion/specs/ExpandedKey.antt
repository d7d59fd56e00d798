-- A key made ready for the rounds.
use Rattle.octets.specs.Bytes.{Bytes}
use Rattle.aes_key_expansion.specs.KeyExpansion.{schedule}
use Rattle.aes_key_expansion.specs.declared.KeySize.{KeySize}
use Rattle.aes_key_expansion.specs.declared.ExpandedKey.{ExpandedKey}

-- the size of a key and its schedule
abbrev pub expanded_key : KeySize → Bytes → ExpandedKey
expanded_key size key = record { size = size; words = schedule size key }
