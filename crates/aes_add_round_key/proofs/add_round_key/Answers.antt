-- `add_round_key` meets its contract: each column is added.
use Rattle.octets.proofs.ListsOfFour.{four}
use Rattle.aes_state.specs.State.{add_word}
use Rattle.aes_add_round_key.proofs.add_round_key.Goals as goal

pub returns : goal.returns
unfolding add_word
returns c =
    four c.add_word.ensures
    c.add_word-2.ensures
    c.add_word-3.ensures
    c.add_word-4.ensures
