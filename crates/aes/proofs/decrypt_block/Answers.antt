-- `decrypt_block` meets its contract: the block becomes a State and back.
use mathlib.Core.Path.{ap, ◌∙◌}
use Rattle.aes_state.specs.State.{bytes_of}
use Rattle.aes_key_expansion.specs.KeySizes.{nr}
use Rattle.aes.specs.InvCipher.{inv_cipher}
use Rattle.aes.specs.Aes.{inv_ciph}
use Rattle.aes.proofs.decrypt_block.Goals as goal

pub returns : goal.returns
unfolding inv_ciph
returns c =
    let key = c.args.key.now in
    c.bytes_of.ensures ∙ ap bytes_of (c.inv_cipher.ensures ∙ ap (inv_cipher (nr key.size) key.words) c.state_of.ensures)
