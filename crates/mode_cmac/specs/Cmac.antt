-- SP 800-38B, 6.2: CMAC, over any block cipher with blocks of 16 bytes.
-- A message is a string of whole bytes, and the MAC is all 16 bytes (Tlen = 128).
use Rattle.std.specs.Prelude.{◌∷◌, ◌++◌, ℕ, zero, suc, ◌+◌, ◌*◌, ◌-◌, ◌/◌, eqb, length, take, drop}
use Rattle.octets.specs.Bytes.{Bytes, zeros, ◌xor◌}
use Rattle.std.specs.Prelude.{if◌then◌else◌}
use Rattle.mode_cmac.specs.Subkeys.{Cipher, subkey1, subkey2}

-- 6.2, step 2: n, 1 for the empty message, else ⌈Mlen / b⌉
unfoldable pub block_count : Bytes → ℕ
block_count m = if eqb (length m) 0 then 1 else (length m + 15) / 16

-- step 3: the block M_i, i from 1 to n - 1, and at n the block M_n*, which may be shorter
unfoldable pub block : Bytes → ℕ → Bytes
block m i = take 16 (drop (16 * (i - 1)) m)

-- step 4: M_n from M_n*: K1 ⊕ M_n* if that is a complete block, else K2 ⊕ (M_n* ‖ 10^j)
unfoldable pub last_block : Cipher → Bytes → Bytes
last_block ciph b =
    if eqb (length b) 16 then subkey1 ciph xor b else subkey2 ciph xor (b ++ 0x80 ∷ zeros (15 - length b))

-- steps 5 and 6: C_0 = 0^128, and C_i = CIPH_K(C_(i-1) ⊕ M_i) for i below n
unfoldable pub chain : Cipher → Bytes → ℕ → Bytes
chain ciph m zero = zeros 16
chain ciph m (suc i) = ciph (chain ciph m i xor block m (suc i))

-- steps 6 and 7: T = C_n = CIPH_K(C_(n-1) ⊕ M_n)
unfoldable pub cmac : Cipher → Bytes → Bytes
cmac ciph m = ciph (chain ciph m (block_count m - 1) xor last_block ciph (block m (block_count m)))
