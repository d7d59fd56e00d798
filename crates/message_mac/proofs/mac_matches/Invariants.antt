use mathlib.Core.Path.{◌≡◌}
use lib.Dec.{eqb}
use lib.ListN.{take}
use Rattle.message_mac.specs.Same.{same}
use Rattle.message_mac.proofs.mac_matches.Given as goal

abbrev pub invariant-loop-i : goal.invariant-loop-i
invariant-loop-i l = eqb l.differ 0 ≡ same (take l.i l.received) (take l.i l.mac)
