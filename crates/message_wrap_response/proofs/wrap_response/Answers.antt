-- `wrap_response` meets its contract: refused by a test, or written.
use borrow.Author.Rules.{rules}
use mathlib.Core.Path.{sym, ◌∙◌}
use lib.ListN.{length}
use Rattle.octets.specs.Bytes.{Bytes}
use Rattle.session_rules.proofs.KeepsTheRules.{valid_count}
use Rattle.message_answer.specs.Answer.{concluded, buffer}
use Rattle.message_protocol.specs.Response.{card_wraps}
use Rattle.message_protocol.proofs.CallCases.{may_wrap_response}
use Rattle.message_protocol.proofs.KeysTyped.{keyed_by_types}
use Rattle.message_result.specs.Results.{wrap_result}
use Rattle.message_result.proofs.Checks.{was_passed, tests_passed, test_refused}
use Rattle.message_result.proofs.StageEnds.{stage_goes_on, stage_refused}
use Rattle.octets.proofs.Tests.{both}
use Rattle.session_rules.specs.Valid.{is_open, counts_as_open}
use Rattle.message_wrap_response.proofs.wrap_response.Goals as goal

pub write_response-requires : goal.write_response-requires
unfolding counts_as_open
write_response-requires c =
    let a = c.args in
    let may = may_wrap_response a.session a.status (length a.«data».now) (length a.out.now) tt
    (was_passed _ (sym c.wrap_response_checks.ensures ∙ c.in-Ok.is)) in
    record { counted = valid_count a.session (both (is_open a.session.phase) _ may.opened).1; short = may.short; fits = may.fits }

pub returns-in-Ok : goal.returns-in-Ok
unfolding card_wraps concluded buffer
returns-in-Ok c =
    let a = c.args in
    let ends = stage_goes_on a.session wrap_result (λ (field : Bytes). field) a.out.now
    (tests_passed _ _ (sym c.wrap_response_checks.ensures ∙ c.in-Ok.is)) (c.write_response.ensures.result, c.write_response.ensures.output) in
    record { result = ends.0; output = ends.1; bytes = λ i l. (c.type_inv.data i).fits; keyed = search (rules, keyed_by_types, c.well_formed.0) }

pub returns-in-Err : goal.returns-in-Err
unfolding card_wraps
returns-in-Err c =
    let a = c.args in
    let ends = stage_refused a.session wrap_result (λ (field : Bytes). field) a.out.now
    (test_refused _ _ (sym c.wrap_response_checks.ensures ∙ c.in-Err.is)) c.refused.ensures in
    record { result = ends.0; output = ends.1; bytes = λ i l. (c.type_inv.data i).fits; keyed = search (rules, keyed_by_types, c.well_formed.0) }
