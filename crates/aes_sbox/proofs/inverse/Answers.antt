-- `inverse` meets its contract: the code is the definition.
use mathlib.Core.Path.{ap, ◌∙◌}
use Rattle.aes_inverses.specs.Inverse.{powers, inverse}
use Rattle.aes_sbox.proofs.inverse.Goals as goal

pub returns : goal.returns
unfolding inverse
returns c = c.powers.ensures ∙ ap (powers 7) c.multiply.ensures
