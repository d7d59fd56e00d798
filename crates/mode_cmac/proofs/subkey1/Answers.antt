-- `subkey1` meets its contract: it doubles the cipher of the zero block.
use mathlib.Core.Path.{ap, ◌∙◌}
use Rattle.mode_cmac.specs.Subkeys.{double, subkey1}
use Rattle.mode_cmac.proofs.subkey1.Goals as goal

pub returns : goal.returns
unfolding subkey1
returns c = c.double.ensures ∙ ap double c.encrypt_block.ensures
