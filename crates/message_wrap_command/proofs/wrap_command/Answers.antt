-- `wrap_command` meets its contract: refused by a test, or written.
use borrow.Author.Rules.{rules}
use mathlib.Core.Path.{sym, ◌∙◌}
use lib.ListN.{length}
use Rattle.octets.specs.Bytes.{Bytes}
use Rattle.message_answer.specs.Answer.{concluded, buffer}
use Rattle.message_answer.specs.Message.{command_header}
use Rattle.message_protocol.specs.Command.{host_wraps}
use Rattle.message_protocol.proofs.CallCases.{may_wrap_command}
use Rattle.message_protocol.proofs.KeysTyped.{keyed_by_types}
use Rattle.message_result.specs.Results.{wrap_result}
use Rattle.message_result.proofs.Checks.{was_passed, tests_passed, test_refused}
use Rattle.message_result.proofs.StageEnds.{stage_goes_on, stage_refused}
use Rattle.message_wrap_command.proofs.wrap_command.Goals as goal

pub write_command-requires : goal.write_command-requires
write_command-requires c =
    let a = c.args in
    let may = may_wrap_command a.session (command_header a.header a.le) (length a.«data».now) (length a.out.now) tt
    (was_passed _ (sym c.wrap_command_checks.ensures ∙ c.in-Ok.is)) in
    record { counted = may.counted; short = may.short; fits = may.fits }

pub returns-in-Ok : goal.returns-in-Ok
unfolding host_wraps concluded buffer
returns-in-Ok c =
    let a = c.args in
    let ends = stage_goes_on a.session wrap_result (λ (field : Bytes). field) a.out.now
    (tests_passed _ _ (sym c.wrap_command_checks.ensures ∙ c.in-Ok.is)) (c.write_command.ensures.result, c.write_command.ensures.output) in
    record { result = ends.0; output = ends.1; bytes = λ i l. (c.type_inv.data i).fits; keyed = search (rules, keyed_by_types, c.well_formed.0) }

pub returns-in-Err : goal.returns-in-Err
unfolding host_wraps
returns-in-Err c =
    let a = c.args in
    let ends = stage_refused a.session wrap_result (λ (field : Bytes). field) a.out.now
    (test_refused _ _ (sym c.wrap_command_checks.ensures ∙ c.in-Err.is)) c.refused.ensures in
    record { result = ends.0; output = ends.1; bytes = λ i l. (c.type_inv.data i).fits; keyed = search (rules, keyed_by_types, c.well_formed.0) }
