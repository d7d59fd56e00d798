-- `subkey2` meets its contract: it doubles K1.
use mathlib.Core.Path.{ap, ◌∙◌}
use Rattle.mode_cmac.specs.Subkeys.{double, subkey2}
use Rattle.mode_cmac.proofs.subkey2.Goals as goal

pub returns : goal.returns
unfolding subkey2
returns c = c.double.ensures ∙ ap double c.subkey1.ensures
