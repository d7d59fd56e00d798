-- `open_response` meets its contract: room, MAC and text, then what the response gives.
use mathlib.Core.Path.{refl, sym, ◌∙◌}
use Rattle.message_protocol.specs.Response.{response_accepted, open_response}
use Rattle.message_result.specs.Results.{response_result}
use Rattle.std.specs.Prelude.{Ok}
use Rattle.message_verify.proofs.Opened.{opens_refused, opens_data}
use Rattle.message_unwrap_response.specs.UnwrapResponse.{payload_of}
use Rattle.message_unwrap_response.proofs.open.open_response.Goals as goal

pub returns-in-Ok : goal.returns-in-Ok
unfolding open_response response_accepted
returns-in-Ok c =
    let a = c.args in
    rw (← c.response_counter-counter.ensures)
    (let m = opens_data a.session response_result payload_of (response_accepted a.session a.status a.full) a.out.now _ _ _ _
    (sym c.verified_text.ensures.answer ∙ c.in-Ok.is) c.verified_text.ensures.output (λ d. refl)
    (λ d l i. record { answer = Ok (record { len = l i; status = a.status }); next = c.response_taken.ensures i }) in
    record { result = m.0; output = m.1 })

pub returns-in-Err : goal.returns-in-Err
unfolding open_response
returns-in-Err c =
    let a = c.args in
    rw (← c.response_counter-counter.ensures)
    (let m = opens_refused a.session response_result payload_of (response_accepted a.session a.status a.full) a.out.now _ _ _ _
    (sym c.verified_text.ensures.answer ∙ c.in-Err.is) c.verified_text.ensures.output c.refused.ensures in
    record { result = m.0; output = m.1 })
