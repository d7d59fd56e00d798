-- `pivsm_close` meets its contract: the session that was read, closed, or 16.
use Rattle.std.proofs.Common.{rules}
use mathlib.Core.Path.{sym, ◌∙◌}
use Rattle.capi_session.specs.SessionBytes.{held_in, served_by, replaced}
use Rattle.capi_session.proofs.Serving.{read_from}
use Rattle.capi_close.proofs.pivsm_close.Goals as goal

pub replace_session-requires : goal.replace_session-requires
replace_session-requires c =
    let a = c.args in
    (read_from (held_in a.session.now a.len.now) _ (sym c.session_in.ensures.decoded ∙ c.in-Ok.is)).room

pub returns-in-Ok-clause-call : goal.returns-in-Ok-clause-call
unfolding served_by replaced
returns-in-Ok-clause-call c = let read = sym c.session_in.ensures.decoded ∙ c.in-Ok.is in search rules

pub returns-in-Err-clause-call : goal.returns-in-Err-clause-call
unfolding served_by
returns-in-Err-clause-call c = let read = sym c.session_in.ensures.decoded ∙ c.in-Err.is in search rules
