-- `sbox_rule` meets its contract: the code is the definition.
use mathlib.Core.Path.{ap, ◌∙◌}
use Rattle.aes_sbox.specs.SBox.{affine, s_box}
use Rattle.aes_sbox.proofs.sbox_rule.Goals as goal

pub returns : goal.returns
unfolding s_box
returns c = c.affine.ensures ∙ ap affine c.inverse.ensures
