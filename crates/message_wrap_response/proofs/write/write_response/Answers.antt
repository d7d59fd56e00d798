-- `write_response` meets its contract: objects, their MAC, and the MAC's object behind them.
use mathlib.Core.Path.{ap, ◌∙◌}
use native.Mathlib.Nat.{zero-add}
use native.Mathlib.Omega.{arith}
use lib.ListN.{take}
use Rattle.std.specs.Prelude.{Ok}
use Rattle.octets.proofs.Writing.{wrote_then, wrote_all, wrote_start}
use Rattle.field_write.specs.Objects.{response_field}
use Rattle.session_turn.specs.Transitions.{response_taken}
use Rattle.message_ciphers.specs.Aes.{aes_ciphers}
use Rattle.message_protocol.specs.Response.{response_mac, response_wrapped}
use Rattle.message_wrap_response.proofs.write.write_response.Goals as goal

pub returns : goal.returns
unfolding response_wrapped response_mac aes_ciphers response_field
returns c =
    let a = c.args in
    let w = c.put_objects-end.ensures.objects in
    let full = c.response_mac-full.ensures ∙ ap (response_mac aes_ciphers a.session) (wrote_start w) in
    let short = c.truncated.ensures ∙ ap (take 8) full in
    let whole = wrote_then (omega arith) w (rw short at c.put_mac-len.ensures) in
    record { result = λ i. record { answer = Ok ((whole.end ∙ zero-add _) i); next = (c.response_taken.ensures ∙ ap (response_taken a.session) full) i }; output = wrote_all whole }
