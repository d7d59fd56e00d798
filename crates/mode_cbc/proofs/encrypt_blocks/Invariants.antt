use mathlib.Core.Path.{◌≡◌}
use Prim.Native.Nat.{◌/◌}
use lib.ListN.{length}
use Rattle.aes.specs.Aes.{ciph}
use Rattle.mode_cbc.specs.Cbc.{encrypt_blocks, cbc_encrypt}
use Rattle.mode_cbc.proofs.BlockByBlock.{pending}
use Rattle.mode_cbc.proofs.encrypt_blocks.Given as goal

abbrev pub invariant-loop-i : goal.invariant-loop-i
invariant-loop-i l =
    pending (encrypt_blocks (ciph l.key.size l.key.words)) (length l.initial.«data» / 16) l.last l.i l.«data»
    ≡ cbc_encrypt (ciph l.key.size l.key.words) l.initial.last l.initial.«data»
