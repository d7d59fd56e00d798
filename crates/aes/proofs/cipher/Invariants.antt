-- Before each turn x is the State after the rounds before `round`.
use Rattle.std.proofs.Common.{◌≡◌, ◌-◌}
use Rattle.aes.specs.Cipher.{rounds}
use Rattle.aes.proofs.cipher.Given as goal

abbrev pub invariant-loop-round : goal.invariant-loop-round
invariant-loop-round l = l.x ≡ rounds l.key.words l.initial.x (l.round - 1)
