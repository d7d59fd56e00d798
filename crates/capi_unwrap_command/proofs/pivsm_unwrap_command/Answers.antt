-- `pivsm_unwrap_command` meets its contract: the unwrap on the session that was read, or 16.
use Rattle.std.proofs.Common.{rules}
use mathlib.Core.Path.{refl, sym, ap, ◌∙◌}
use lib.ListN.{length}
use Rattle.refusal.specs.declared.Answered.{Answered}
use Rattle.session.specs.declared.Session.{Session}
use Rattle.message_answer.specs.Answer.{buffer}
use Rattle.message_ciphers.specs.Aes.{aes_ciphers}
use Rattle.message_protocol.specs.Command.{card_unwraps}
use Rattle.message_result.specs.Results.{command_answer}
use Rattle.message_result.specs.declared.AcceptedCommand.{AcceptedCommand}
use Rattle.capi_values.specs.Values.{command_values}
use Rattle.capi_values.proofs.Numbers.{command_number}
use Rattle.capi_session.specs.SessionBytes.{served_by}
use Rattle.capi_session.proofs.Serving.{read_from, was_replaced}
use Rattle.capi_unwrap_command.specs.Call.{given, left}
use Rattle.capi_unwrap_command.proofs.pivsm_unwrap_command.Goals as goal

pub replace_session-requires : goal.replace_session-requires
replace_session-requires c = (read_from _ _ (sym c.session_in.ensures.decoded ∙ c.in-Ok.is)).room

pub returns-in-Ok-clause-call : goal.returns-in-Ok-clause-call
unfolding card_unwraps
returns-in-Ok-clause-call c =
    let a = c.args in
    let g = given a.session.now a.len.now a.ins a.p1 a.p2 a.field.now a.payload.now in
    let r = c.unwrap_command-result.ensures in
    let gives =
    was_replaced (λ x. command_values (command_answer x)) (λ m. m.payload) g.payload g.held (λ s. card_unwraps aes_ciphers s g.header g.field (length g.payload)) _
    (sym c.session_in.ensures.decoded ∙ c.in-Ok.is) c.session_in.ensures.bytes _ refl command_number _ _ _ _
    (c.values-values.ensures ∙ ap (λ (x : Answered AcceptedCommand Session). command_values x.answer) r.result)
    (ap (λ (x : Answered AcceptedCommand Session). x.next) r.result) c.replace_session.ensures r.output in
    λ i. left (gives.numbers i).number (gives.holds i).bytes (gives.holds i).len (gives.output i) (gives.numbers i).len (gives.numbers i).le

pub returns-in-Err-clause-call : goal.returns-in-Err-clause-call
unfolding served_by buffer
returns-in-Err-clause-call c = let read = sym c.session_in.ensures.decoded ∙ c.in-Err.is in search rules
