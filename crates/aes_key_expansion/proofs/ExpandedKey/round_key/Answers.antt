-- `round_key` meets its contract: four words of the schedule.
use native.Mathlib.Nat.{add-zero}
use Rattle.aes_key_expansion.proofs.ExpandedKey.round_key.Goals as goal

pub returns : goal.returns
returns c = rw add-zero
