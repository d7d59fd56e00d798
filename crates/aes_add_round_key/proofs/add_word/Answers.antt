-- `add_word` meets its contract: byte by byte.
use borrow.Author.Rules.{rules}
use Rattle.aes_state.specs.State.{add_word}
use Rattle.aes_add_round_key.proofs.add_word.Goals as goal

pub returns : goal.returns
unfolding add_word
returns c = search rules
