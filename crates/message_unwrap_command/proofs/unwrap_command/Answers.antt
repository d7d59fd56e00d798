-- `unwrap_command` meets its contract: refused by a test, or read.
use mathlib.Core.Path.{sym, ◌∙◌}
use lib.ListN.{length}
use Rattle.message_protocol.specs.Command.{card_unwraps}
use Rattle.message_protocol.proofs.CallCases.{may_unwrap_command}
use Rattle.message_result.specs.Results.{command_result}
use Rattle.message_result.proofs.Checks.{was_passed, tests_passed, test_refused}
use Rattle.message_result.proofs.StageEnds.{stage_goes_on, stage_refused}
use Rattle.message_unwrap_command.specs.UnwrapCommand.{payload_of}
use Rattle.message_unwrap_command.proofs.unwrap_command.Goals as goal

pub read_command-requires : goal.read_command-requires
read_command-requires c =
    let a = c.args in
    (may_unwrap_command a.session a.header.ins (length a.field.now) tt
    (was_passed _ (sym c.unwrap_command_checks.ensures ∙ c.in-Ok.is))).counted

pub returns-in-Ok : goal.returns-in-Ok
unfolding card_unwraps
returns-in-Ok c =
    let a = c.args in
    let m = stage_goes_on a.session command_result payload_of a.out.now
    (tests_passed _ _ (sym c.unwrap_command_checks.ensures ∙ c.in-Ok.is)) (c.read_command.ensures.result, c.read_command.ensures.output) in
    record { result = m.0; output = m.1 }

pub returns-in-Err : goal.returns-in-Err
unfolding card_unwraps
returns-in-Err c =
    let a = c.args in
    let m = stage_refused a.session command_result payload_of a.out.now
    (test_refused _ _ (sym c.unwrap_command_checks.ensures ∙ c.in-Err.is)) c.refused.ensures in
    record { result = m.0; output = m.1 }
