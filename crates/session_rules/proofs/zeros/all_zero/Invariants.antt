-- Before each turn the bytes passed are zero.
use mathlib.Core.Path.{◌≡◌}
use lib.ListN.{drop}
use Rattle.session_rules.specs.ZeroBytes.{all_zero}
use Rattle.session_rules.proofs.zeros.all_zero.Given as goal

abbrev pub invariant-loop-b : goal.invariant-loop-b
invariant-loop-b l = all_zero l.bytes ≡ all_zero (drop l.b-index l.bytes)
