-- `encrypt_block` meets its contract: the block becomes a State and back.
use mathlib.Core.Path.{ap, ◌∙◌}
use Rattle.aes_state.specs.State.{bytes_of}
use Rattle.aes_key_expansion.specs.KeySizes.{nr}
use Rattle.aes.specs.Cipher.{cipher}
use Rattle.aes.specs.Aes.{ciph}
use Rattle.aes.proofs.encrypt_block.Goals as goal

pub returns : goal.returns
unfolding ciph
returns c =
    let key = c.args.key.now in
    c.bytes_of.ensures ∙ ap bytes_of (c.cipher.ensures ∙ ap (cipher (nr key.size) key.words) c.state_of.ensures)
