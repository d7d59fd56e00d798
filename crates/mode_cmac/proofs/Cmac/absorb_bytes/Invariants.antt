use mathlib.Core.Path.{◌≡◌}
use lib.ListN.{drop}
use Rattle.aes.specs.Aes.{ciph}
use Rattle.mode_cmac.specs.Running.{absorb}
use Rattle.mode_cmac.proofs.Cmac.absorb_bytes.Given as goal

abbrev pub invariant-loop-b : goal.invariant-loop-b
invariant-loop-b l =
    absorb (ciph l.key.size l.key.words) l.state (drop l.b-index l.«data»)
    ≡ absorb (ciph l.key.size l.key.words) l.initial.state l.«data»
