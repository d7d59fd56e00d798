-- `x_times` meets its contract: the code is the definition.
use mathlib.Core.Path.{refl}
use Rattle.aes_gf.specs.Field.{x_times}
use Rattle.aes_gf.proofs.x_times.Goals as goal

pub returns : goal.returns
unfolding x_times
returns c = refl
