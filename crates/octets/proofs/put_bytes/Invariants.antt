-- Before each turn the first i bytes of src are written.
use mathlib.Core.Path.{◌≡◌}
use lib.ListN.{length, take}
use Rattle.octets.specs.Write.{put}
use Rattle.octets.proofs.put_bytes.Given as goal

abbrev pub invariant-loop-i : goal.invariant-loop-i
invariant-loop-i l = (l.out ≡ put l.initial.out l.at (take l.i l.src)) × (length l.out ≡ length l.initial.out)
