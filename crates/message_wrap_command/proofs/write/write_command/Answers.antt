-- `write_command` meets its contract: objects, their MAC, and the MAC's object behind them.
use mathlib.Core.Path.{ap, ◌∙◌}
use native.Mathlib.Nat.{zero-add}
use native.Mathlib.Omega.{arith}
use lib.ListN.{take}
use Rattle.octets.proofs.Writing.{wrote_then, wrote_all, wrote_start}
use Rattle.std.specs.Prelude.{Ok}
use Rattle.field_write.specs.Objects.{command_field}
use Rattle.session_turn.specs.Transitions.{command_taken}
use Rattle.message_ciphers.specs.Aes.{aes_ciphers}
use Rattle.message_answer.specs.Message.{command_header}
use Rattle.message_protocol.specs.Command.{command_input, command_mac, command_wrapped}
use Rattle.message_wrap_command.proofs.write.write_command.Goals as goal

pub returns : goal.returns
unfolding command_wrapped command_mac command_input aes_ciphers command_field
returns c =
    let a = c.args in
    let w = c.put_objects-end.ensures.objects in
    let full = c.command_mac-full.ensures ∙ ap (command_mac aes_ciphers a.session (command_header a.header a.le)) (wrote_start w) in
    let short = c.truncated.ensures ∙ ap (take 8) full in
    let whole = wrote_then (omega arith) w (rw short at c.put_mac-len.ensures) in
    record { result = λ i. record { answer = Ok ((whole.end ∙ zero-add _) i); next = (c.command_taken.ensures ∙ ap (command_taken a.session) full) i }; output = wrote_all whole }
