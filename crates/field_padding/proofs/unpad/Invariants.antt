use mathlib.Core.Path.{◌≡◌}
use Prim.Native.Nat.{◌-◌, ◌≤◌}
use Rattle.field_padding.specs.Padding.{mark_before, unpad}
use Rattle.field_padding.proofs.unpad.Given as goal

abbrev pub invariant-loop-n : goal.invariant-loop-n
invariant-loop-n l = (l.start ≤ l.n) × (mark_before (l.n - l.start) l.bytes l.n ≡ unpad l.bytes)
