-- `put_saved` meets its contract: the session's bytes, or no room.
use Rattle.std.proofs.Common.{rules}
use mathlib.Core.Path.{sym, ◌∙◌}
use lib.ListN.{length}
use Rattle.session_bytes.specs.Saving.{encoded_in}
use Rattle.message_answer.specs.Answer.{buffer}
use Rattle.capi_open.proofs.Saved.{not_saved, was_saved}
use Rattle.capi_open.proofs.put_saved.Goals as goal

pub returns-in-Ok : goal.returns-in-Ok
unfolding buffer encoded_in
returns-in-Ok c =
    let a = c.args in
    let e = was_saved a.fresh c.requires (length a.session.now) _ (sym c.encode.ensures.answer ∙ c.in-Ok.is) in
    search rules

pub returns-in-Err : goal.returns-in-Err
unfolding buffer encoded_in
returns-in-Err c =
    let a = c.args in
    let e = not_saved a.fresh c.requires (length a.session.now) _ (sym c.encode.ensures.answer ∙ c.in-Err.is) in
    search rules
