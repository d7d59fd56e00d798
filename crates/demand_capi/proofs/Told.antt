-- What a call from C gave is what the definition gives at its arguments.
use mathlib.Core.Path.{◌≡◌, refl, ap, ◌∙◌}
use mathlib.Core.List.{[]}
use Rattle.octets.specs.Bytes.{Bytes, IsBytes}
use Rattle.octets.specs.Write.{over}
use Rattle.message_answer.specs.Answer.{Answer, refused, gave, buffer}
use Rattle.message_protocol.specs.RefusalKeeps.{writes}
use Rattle.message_protocol.specs.Transcript.{Gives, does}
use Rattle.capi_values.specs.Values.{number_of}
use Rattle.capi_values.proofs.Numbers.{wrap_number, command_number, response_number}
use Rattle.capi_session.specs.SessionBytes.{Served, Held}
use Rattle.capi_close.specs.Call as Close
use Rattle.capi_wrap_command.specs.Call as WrapCommand
use Rattle.capi_unwrap_command.specs.Call as UnwrapCommand
use Rattle.capi_wrap_response.specs.Call as WrapResponse
use Rattle.capi_unwrap_response.specs.Call as UnwrapResponse
use Rattle.demand_capi.specs.Calls.{Event, wraps_command, unwraps_command, wraps_response, unwraps_response, closes, seen, call}
use Rattle.demand_capi.specs.RefusalKeeps.{output}
use Rattle.demand_capi.proofs.Named.{close_told, wrap_command_told, unwrap_command_told, wrap_response_told, unwrap_response_told}
use Rattle.demand_capi.proofs.ServedCall.{served_call}

abbrev pub served : (e : Event) → Served Held (Gives (call e))
served e = served_call (seen e).held (call e)

pub number_told_lem : (e : Event) → (seen e).number ≡ number_of (served e).answer
unfolding does
number_told_lem (wraps_command side c) =
    ap (λ (l : WrapCommand.Left). l.number) (wrap_command_told c) ∙ wrap_number (served (wraps_command side c)).answer
number_told_lem (unwraps_command side c) =
    ap (λ (l : UnwrapCommand.Left). l.number) (unwrap_command_told c) ∙ command_number (served (unwraps_command side c)).answer
number_told_lem (wraps_response side c) =
    ap (λ (l : WrapResponse.Left). l.number) (wrap_response_told c) ∙ wrap_number (served (wraps_response side c)).answer
number_told_lem (unwraps_response side c) =
    ap (λ (l : UnwrapResponse.Left). l.number) (unwrap_response_told c) ∙ response_number (served (unwraps_response side c)).answer
number_told_lem (closes side c) = ap (λ (l : Close.Left). l.number) (close_told c)

pub held_told : (e : Event) → (seen e).held_after ≡ (served e).held
unfolding does
held_told (wraps_command side c) = ap (λ (l : WrapCommand.Left). l.held) (wrap_command_told c)
held_told (unwraps_command side c) = ap (λ (l : UnwrapCommand.Left). l.held) (unwrap_command_told c)
held_told (wraps_response side c) = ap (λ (l : WrapResponse.Left). l.held) (wrap_response_told c)
held_told (unwraps_response side c) = ap (λ (l : UnwrapResponse.Left). l.held) (unwrap_response_told c)
held_told (closes side c) = ap (λ (l : Close.Left). l.held) (close_told c)

nothing : (a : Answer (Unit {0})) → ◌≡◌ {A = Bytes} [] (buffer (λ (u : Unit {0}). []) [] a)
unfolding buffer over
nothing (refused r) = refl
nothing (gave u) = refl

pub output_told : (e : Event) → (output e).after ≡ buffer (writes (call e)) (output e).before (served e).answer
unfolding does
output_told (wraps_command side c) = ap (λ (l : WrapCommand.Left). l.field) (wrap_command_told c)
output_told (unwraps_command side c) = ap (λ (l : UnwrapCommand.Left). l.payload) (unwrap_command_told c)
output_told (wraps_response side c) = ap (λ (l : WrapResponse.Left). l.field) (wrap_response_told c)
output_told (unwraps_response side c) = ap (λ (l : UnwrapResponse.Left). l.payload) (unwrap_response_told c)
output_told (closes side c) = nothing (served (closes side c)).answer

-- ---- what the types say

pub held_bytes : (e : Event) → IsBytes (seen e).held.bytes
held_bytes (wraps_command side c) = c.met.1.0
held_bytes (unwraps_command side c) = c.met.1
held_bytes (wraps_response side c) = c.met.1.0
held_bytes (unwraps_response side c) = c.met.1
held_bytes (closes side c) = c.met.1
