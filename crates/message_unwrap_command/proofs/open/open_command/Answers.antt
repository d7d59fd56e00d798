-- `open_command` meets its contract: room, MAC and text, then what the command gives.
use mathlib.Core.Path.{refl, sym, ◌∙◌}
use Rattle.message_protocol.specs.Command.{command_accepted, open_command}
use Rattle.message_result.specs.Results.{command_result}
use Rattle.std.specs.Prelude.{Ok}
use Rattle.message_verify.proofs.Opened.{opens_refused, opens_data}
use Rattle.message_unwrap_command.specs.UnwrapCommand.{payload_of}
use Rattle.message_unwrap_command.proofs.open.open_command.Goals as goal

pub returns-in-Ok : goal.returns-in-Ok
unfolding open_command command_accepted
returns-in-Ok c =
    let a = c.args in
    rw (← c.command_counter-counter.ensures)
    (let m = opens_data a.session command_result payload_of (command_accepted a.session a.le a.full) a.out.now _ _ _ _
    (sym c.verified_text.ensures.answer ∙ c.in-Ok.is) c.verified_text.ensures.output (λ d. refl)
    (λ d l i. record { answer = Ok (record { len = l i; le = a.le }); next = c.command_taken.ensures i }) in
    record { result = m.0; output = m.1 })

pub returns-in-Err : goal.returns-in-Err
unfolding open_command
returns-in-Err c =
    let a = c.args in
    rw (← c.command_counter-counter.ensures)
    (let m = opens_refused a.session command_result payload_of (command_accepted a.session a.le a.full) a.out.now _ _ _ _
    (sym c.verified_text.ensures.answer ∙ c.in-Err.is) c.verified_text.ensures.output c.refused.ensures in
    record { result = m.0; output = m.1 })
