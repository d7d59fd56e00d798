-- `add` meets its contract: the code is the definition.
use mathlib.Core.Path.{refl}
use Rattle.mode_cmac.specs.Running.{add}
use Rattle.mode_cmac.proofs.Cmac.add.Goals as goal

pub returns : goal.returns
unfolding add
returns c = refl
