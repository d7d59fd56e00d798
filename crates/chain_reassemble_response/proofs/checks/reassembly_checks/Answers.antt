-- `reassembly_checks` meets its contract: one test after the other.
use Rattle.std.proofs.Common.{rules}
use native.Mathlib.Omega.{arith}
use Rattle.octets.proofs.Tests.{outcome}
use Rattle.message_answer.specs.Answer.{require◌else◌⨾◌}
use Rattle.chain_response.specs.Reassembly.{reassembly_checks}
use Rattle.chain_reassemble_response.proofs.ResponseCases.{has_status, short_data, possible_short}
use Rattle.chain_reassemble_response.proofs.checks.reassembly_checks.Goals as goal

pub returns-then-not-well_formed : goal.returns-then-not-well_formed
unfolding reassembly_checks require◌else◌⨾◌
returns-then-not-well_formed c = search rules

pub returns-then-not-possible : goal.returns-then-not-possible
unfolding reassembly_checks require◌else◌⨾◌
returns-then-not-possible c = search rules

pub overflow_sub-needed : goal.overflow_sub-needed
overflow_sub-needed c = has_status _ (outcome _ c.well_formed-2.ensures c.if-not-well_formed.false)

pub overflow_add-needed : goal.overflow_add-needed
overflow_add-needed c =
    let shaped = outcome _ c.well_formed-2.ensures c.if-not-well_formed.false in
    let state = outcome _ c.possible.ensures c.if-not-possible.false in
    omega (arith, short_data _ shaped, possible_short _ state)

pub returns-then-needed-gt-MAX_RESPONSE_FIELD : goal.returns-then-needed-gt-MAX_RESPONSE_FIELD
unfolding reassembly_checks require◌else◌⨾◌
returns-then-needed-gt-MAX_RESPONSE_FIELD c = search rules

pub returns-then-needed-room : goal.returns-then-needed-room
unfolding reassembly_checks require◌else◌⨾◌
returns-then-needed-room c = search rules

pub returns : goal.returns
unfolding reassembly_checks require◌else◌⨾◌
returns c = search rules
