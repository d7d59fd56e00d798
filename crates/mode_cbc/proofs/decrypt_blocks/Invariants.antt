use mathlib.Core.Path.{◌≡◌}
use Prim.Native.Nat.{◌/◌}
use lib.ListN.{length}
use Rattle.aes.specs.Aes.{inv_ciph}
use Rattle.mode_cbc.specs.Cbc.{decrypt_blocks, cbc_decrypt}
use Rattle.mode_cbc.proofs.BlockByBlock.{pending}
use Rattle.mode_cbc.proofs.decrypt_blocks.Given as goal

abbrev pub invariant-loop-i : goal.invariant-loop-i
invariant-loop-i l =
    pending (decrypt_blocks (inv_ciph l.key.size l.key.words)) (length l.initial.«data» / 16) l.last l.i l.«data»
    ≡ cbc_decrypt (inv_ciph l.key.size l.key.words) l.initial.last l.initial.«data»
