-- `pivsm_unwrap_response` meets its contract: the unwrap on the session that was read, or 16.
use Rattle.std.proofs.Common.{rules}
use mathlib.Core.Path.{refl, sym, ap, ◌∙◌}
use lib.ListN.{length}
use Rattle.apdu.specs.declared.StatusWord.{StatusWord}
use Rattle.refusal.specs.declared.Answered.{Answered}
use Rattle.session.specs.declared.Session.{Session}
use Rattle.message_answer.specs.Answer.{Out, buffer}
use Rattle.message_answer.specs.Message.{Response}
use Rattle.message_ciphers.specs.Aes.{aes_ciphers}
use Rattle.message_protocol.specs.Response.{host_unwraps}
use Rattle.message_result.specs.Results.{response_answer, response_result}
use Rattle.message_result.specs.declared.AcceptedResponse.{AcceptedResponse}
use Rattle.capi_values.specs.Values.{response_values}
use Rattle.capi_values.proofs.Numbers.{response_number}
use Rattle.capi_session.specs.SessionBytes.{served_by}
use Rattle.capi_session.proofs.Serving.{read_from, was_replaced}
use Rattle.capi_unwrap_response.specs.Call.{given, left}
use Rattle.capi_unwrap_response.proofs.pivsm_unwrap_response.Goals as goal

pub replace_session-requires : goal.replace_session-requires
replace_session-requires c = (read_from _ _ (sym c.session_in.ensures.decoded ∙ c.in-Ok.is)).room

pub returns-in-Ok-clause-call : goal.returns-in-Ok-clause-call
unfolding host_unwraps
returns-in-Ok-clause-call c =
    let a = c.args in
    let g = given a.session.now a.len.now a.sw a.field.now a.payload.now in
    let r = c.unwrap_response-result.ensures in
    let sw = c.from-sent.ensures in
    let unwraps : StatusWord → Out Response = λ w. host_unwraps aes_ciphers c.in-Ok.held w a.field.now (length a.payload.now) in
    let result = r.result ∙ ap (λ (w : StatusWord). response_result (unwraps w)) sw in
    let gives =
    was_replaced (λ x. response_values (response_answer x)) (λ m. m.payload) g.payload g.held (λ s. host_unwraps aes_ciphers s g.sw g.field (length g.payload)) _
    (sym c.session_in.ensures.decoded ∙ c.in-Ok.is) c.session_in.ensures.bytes _ refl response_number _ _ _ _
    (c.values-values.ensures ∙ ap (λ (x : Answered AcceptedResponse Session). response_values x.answer) result)
    (ap (λ (x : Answered AcceptedResponse Session). x.next) result) c.replace_session.ensures
    (r.output ∙ ap (λ (w : StatusWord). buffer (λ (m : Response). m.payload) a.payload.now (unwraps w).answer) sw) in
    λ i. left (gives.numbers i).number (gives.holds i).bytes (gives.holds i).len (gives.output i) (gives.numbers i).len (gives.numbers i).status

pub returns-in-Err-clause-call : goal.returns-in-Err-clause-call
unfolding served_by buffer
returns-in-Err-clause-call c = let read = sym c.session_in.ensures.decoded ∙ c.in-Err.is in search rules
