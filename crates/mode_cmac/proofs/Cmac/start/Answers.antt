-- `start` meets its contract: the code is the definition.
use mathlib.Core.Path.{refl}
use Rattle.mode_cmac.specs.Running.{start}
use Rattle.mode_cmac.proofs.Cmac.start.Goals as goal

pub returns : goal.returns
unfolding start
returns c = refl
