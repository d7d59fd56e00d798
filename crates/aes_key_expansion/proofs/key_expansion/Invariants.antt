-- Before each turn the first i words are made, and the others are zero.
use Rattle.std.proofs.Common.{◌≡◌, length}
use Rattle.aes_key_expansion.proofs.Schedule.{filled}
use Rattle.aes_key_expansion.proofs.key_expansion.Given as goal

abbrev pub invariant-loop-i : goal.invariant-loop-i
invariant-loop-i l = (length l.w ≡ 60) × (l.w ≡ filled l.n l.key l.i)
