-- `pivsm_wrap_command` meets its contract: the wrap on the session that was read, or 16.
use Rattle.std.proofs.Common.{rules}
use mathlib.Core.Path.{refl, sym, ap, ◌∙◌}
use Prim.Native.Nat.{ℕ}
use lib.ListN.{length}
use Rattle.octets.specs.Bytes.{Bytes}
use Rattle.refusal.specs.declared.Answered.{Answered}
use Rattle.session.specs.declared.Session.{Session}
use Rattle.message_answer.specs.Answer.{buffer}
use Rattle.message_ciphers.specs.Aes.{aes_ciphers}
use Rattle.message_protocol.specs.Command.{host_wraps}
use Rattle.message_result.specs.Results.{wrap_answer}
use Rattle.capi_values.specs.Values.{wrap_values}
use Rattle.capi_values.proofs.Numbers.{wrap_number}
use Rattle.capi_session.specs.SessionBytes.{served_by}
use Rattle.capi_session.proofs.Serving.{read_from, was_replaced}
use Rattle.capi_wrap_command.specs.Call.{given, left}
use Rattle.capi_wrap_command.proofs.pivsm_wrap_command.Goals as goal

pub replace_session-requires : goal.replace_session-requires
replace_session-requires c = (read_from _ _ (sym c.session_in.ensures.decoded ∙ c.in-Ok.is)).room

pub returns-in-Ok-clause-call : goal.returns-in-Ok-clause-call
unfolding host_wraps
returns-in-Ok-clause-call c =
    let a = c.args in
    let g = given a.session.now a.len.now a.ins a.p1 a.p2 a.le a.payload.now a.field.now in
    let r = c.wrap_command-result.ensures in
    let gives =
    was_replaced (λ x. wrap_values (wrap_answer x)) (λ (bytes : Bytes). bytes) g.field g.held (λ s. host_wraps aes_ciphers s g.message (length g.field)) _
    (sym c.session_in.ensures.decoded ∙ c.in-Ok.is) c.session_in.ensures.bytes _ refl wrap_number _ _ _ _
    (c.values-values.ensures ∙ ap (λ (x : Answered ℕ Session). wrap_values x.answer) r.result)
    (ap (λ (x : Answered ℕ Session). x.next) r.result) c.replace_session.ensures r.output in
    λ i. left (gives.numbers i).number (gives.holds i).bytes (gives.holds i).len (gives.output i) (gives.numbers i).len

pub returns-in-Err-clause-call : goal.returns-in-Err-clause-call
unfolding served_by buffer
returns-in-Err-clause-call c = let read = sym c.session_in.ensures.decoded ∙ c.in-Err.is in search rules
