-- `reassemble_response` meets its contract: refused by a test, or taken.
use mathlib.Core.Path.{refl, sym, ◌∙◌}
use Rattle.message_result.proofs.Checks.{was_passed, was_refused}
use Rattle.chain_response.specs.Reassembly.{concluded, reassemble_response, written, reassembly_buffer}
use Rattle.chain_reassemble_response.proofs.ResponseCases.{may_take}
use Rattle.chain_reassemble_response.proofs.reassemble_response.Goals as goal

pub take_fragment-requires : goal.take_fragment-requires
take_fragment-requires c = may_take _ _ _ (was_passed _ (sym c.reassembly_checks.ensures ∙ c.in-Ok.is))

pub returns-in-Ok : goal.returns-in-Ok
unfolding reassemble_response concluded reassembly_buffer written
returns-in-Ok c =
    let e = was_passed _ (sym c.reassembly_checks.ensures ∙ c.in-Ok.is) in
    record { result = rw e c.take_fragment.ensures.result; output = rw e c.take_fragment.ensures.output }

pub returns-in-Err : goal.returns-in-Err
unfolding reassemble_response concluded reassembly_buffer written
returns-in-Err c =
    let e = was_refused _ _ (sym c.reassembly_checks.ensures ∙ c.in-Err.is) in
    record { result = rw e refl; output = rw e refl }
