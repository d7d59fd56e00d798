-- `put_opened` meets its contract: the session saved, or the opening's refusal.
use Rattle.std.proofs.Common.{rules}
use Rattle.message_answer.specs.Answer.{buffer}
use Rattle.capi_open.specs.Call.{opened_as}
use Rattle.capi_open.proofs.put_opened.Goals as goal

pub returns-in-Ok : goal.returns-in-Ok
unfolding opened_as
returns-in-Ok c = search rules

pub returns-in-Err : goal.returns-in-Err
unfolding opened_as buffer
returns-in-Err c = search rules
