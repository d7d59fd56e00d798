-- `apdu_length` meets its contract: five bytes and the data; one more in the last.
use mathlib.Core.Path.{sym}
use Rattle.chain_fragment_command.proofs.Apdus.{length_apdu_last, length_apdu_chained}
use Rattle.chain_fragment_command.proofs.part.apdu_length.Goals as goal

pub returns-then-part : goal.returns-then-part
returns-then-part c h = sym (length_apdu_last _ h _ c.if-part.true)

pub returns : goal.returns
returns c h = sym (length_apdu_chained _ h _ c.if-part.false)
