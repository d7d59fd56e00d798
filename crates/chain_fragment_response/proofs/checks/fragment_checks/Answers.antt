-- `fragment_checks` meets its contract: one test after the other.
use Rattle.std.proofs.Common.{rules}
use native.Mathlib.Omega.{arith}
use Rattle.message_answer.specs.Answer.{require◌else◌⨾◌}
use Rattle.chain_response.specs.Fragment.{fragment_response}
use Rattle.chain_fragment_response.proofs.Parts.{part_order, part_within, length_fragment}
use Rattle.chain_fragment_response.proofs.checks.fragment_checks.Goals as goal

pub returns-then-not-status_permitted : goal.returns-then-not-status_permitted
unfolding fragment_response require◌else◌⨾◌
returns-then-not-status_permitted c = search rules

pub returns-then-field-gt-LONGEST_FIELD : goal.returns-then-field-gt-LONGEST_FIELD
unfolding fragment_response require◌else◌⨾◌
returns-then-field-gt-LONGEST_FIELD c = search rules

pub returns-then-at-field : goal.returns-then-at-field
unfolding fragment_response require◌else◌⨾◌
returns-then-at-field c = search rules

pub overflow_sub-needed : goal.overflow_sub-needed
overflow_sub-needed c = let a = c.args in omega (arith, part_order a.field.now a.at a.le _ c.next-end.ensures)

pub overflow_add-needed : goal.overflow_add-needed
overflow_add-needed c =
    let a = c.args in
    omega (arith, part_within a.field.now a.at a.le _ c.next-end.ensures (omega (arith, c.if-at-field.false)), c.if-field-gt-LONGEST_FIELD.false)

pub returns-then-needed-room : goal.returns-then-needed-room
unfolding fragment_response require◌else◌⨾◌
returns-then-needed-room c =
    let a = c.args in
    let l = length_fragment a.field.now a.at a.le _ c.next-end.ensures a.status in
    search (rules, l)

pub returns : goal.returns
unfolding fragment_response require◌else◌⨾◌
returns c =
    let a = c.args in
    let l = length_fragment a.field.now a.at a.le _ c.next-end.ensures a.status in
    search (rules, l)
