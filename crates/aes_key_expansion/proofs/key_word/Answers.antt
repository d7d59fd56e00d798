-- `key_word` meets its contract: four bytes of the key.
use native.Mathlib.Nat.{add-zero}
use Rattle.aes_key_expansion.specs.KeyExpansion.{key_word}
use Rattle.aes_key_expansion.proofs.key_word.Goals as goal

pub returns : goal.returns
unfolding key_word
returns c = rw add-zero
