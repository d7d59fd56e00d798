use mathlib.Core.Path.{◌≡◌}
use Prim.Native.Nat.{◌≤◌}
use Rattle.aes.specs.InvCipher.{inv_rounds}
use Rattle.aes.proofs.inv_middle_rounds.Given as goal

abbrev pub invariant-loop-round : goal.invariant-loop-round
invariant-loop-round l = (l.round ≤ l.n) × (inv_rounds l.key.words l.x l.round ≡ inv_rounds l.key.words l.initial.x l.n)

abbrev pub decreases-loop-round : goal.decreases-loop-round
decreases-loop-round l = l.round
