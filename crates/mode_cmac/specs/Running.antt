-- CMAC byte after byte: what `start`, `absorb` and `finish` give. That the whole is SP 800-38B's CMAC is
-- proofs/Theorems.antt.
use Rattle.std.specs.Prelude.{[], ◌∷◌, ℕ, ◌+◌, leb, get_or, set}
use Rattle.octets.specs.Bytes.{Bytes, zeros, ◌⊕◌, ◌xor◌}
use Rattle.std.specs.Prelude.{if◌then◌else◌}
use Rattle.mode_cmac.specs.declared.Cmac.{Cmac}
use Rattle.mode_cmac.specs.Subkeys.{Cipher, subkey1, subkey2}

-- nothing absorbed
unfoldable pub start : Cmac
start = record { chain = zeros 16; len = 0 }

-- a full block is enciphered once another byte follows it, as the last block is treated otherwise
unfoldable pub flush : Cipher → Cmac → Cmac
flush ciph s = if leb 16 s.len then record { chain = ciph s.chain; len = 0 } else s

-- a byte added to the current block, after its other bytes
unfoldable pub add : Cmac → ℕ → Cmac
add s b = record { chain = set s.chain s.len (get_or s.chain s.len 0 ⊕ b); len = s.len + 1 }

-- one byte after the other
unfoldable pub absorb : Cipher → Cmac → Bytes → Cmac
absorb ciph s [] = s
absorb ciph s (b ∷ bs) = absorb ciph (add (flush ciph s) b) bs

-- the MAC of the bytes absorbed
unfoldable pub finish : Cipher → Cmac → Bytes
finish ciph s =
    if leb 16 s.len then ciph (s.chain xor subkey1 ciph) else ciph ((add s 0x80).chain xor subkey2 ciph)
