use mathlib.Core.Path.{◌≡◌}
use lib.ListN.{length, take}
use Rattle.octets.specs.Bytes.{tabulate}
use Rattle.mode_cmac.specs.Subkeys.{shifted_byte}
use Rattle.mode_cmac.proofs.shift_left.Given as goal

abbrev pub invariant-loop-i : goal.invariant-loop-i
invariant-loop-i l = (length l.r ≡ 16) × (take l.i l.r ≡ tabulate l.i (shifted_byte l.x))
