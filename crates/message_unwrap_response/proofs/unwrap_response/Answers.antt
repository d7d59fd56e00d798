-- `unwrap_response` meets its contract: refused by a test, or read.
use mathlib.Core.Path.{sym, ◌∙◌}
use lib.ListN.{length}
use Rattle.octets.proofs.Tests.{both}
use Rattle.session_rules.specs.Valid.{is_open, counts_as_open}
use Rattle.session_rules.proofs.KeepsTheRules.{valid_count}
use Rattle.message_protocol.specs.Response.{host_unwraps}
use Rattle.message_protocol.proofs.CallCases.{may_unwrap_response}
use Rattle.message_result.specs.Results.{response_result}
use Rattle.message_result.proofs.Checks.{was_passed, tests_passed, test_refused}
use Rattle.message_result.proofs.StageEnds.{stage_goes_on, stage_refused}
use Rattle.message_unwrap_response.specs.UnwrapResponse.{payload_of}
use Rattle.message_unwrap_response.proofs.unwrap_response.Goals as goal

pub read_response-requires : goal.read_response-requires
unfolding counts_as_open
read_response-requires c =
    let a = c.args in
    let may = may_unwrap_response a.session a.status (length a.field.now) tt (was_passed _ (sym c.unwrap_response_checks.ensures ∙ c.in-Ok.is)) in
    valid_count a.session (both (is_open a.session.phase) _ may.opened).1

pub returns-in-Ok : goal.returns-in-Ok
unfolding host_unwraps
returns-in-Ok c =
    let a = c.args in
    let m = stage_goes_on a.session response_result payload_of a.out.now
    (tests_passed _ _ (sym c.unwrap_response_checks.ensures ∙ c.in-Ok.is)) (c.read_response.ensures.result, c.read_response.ensures.output) in
    record { result = m.0; output = m.1 }

pub returns-in-Err : goal.returns-in-Err
unfolding host_unwraps
returns-in-Err c =
    let a = c.args in
    let m = stage_refused a.session response_result payload_of a.out.now
    (test_refused _ _ (sym c.unwrap_response_checks.ensures ∙ c.in-Err.is)) c.refused.ensures in
    record { result = m.0; output = m.1 }
