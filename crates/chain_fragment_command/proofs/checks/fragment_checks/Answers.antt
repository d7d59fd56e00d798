-- `fragment_checks` meets its contract: one test after the other.
use Rattle.std.proofs.Common.{rules}
use Rattle.message_answer.specs.Answer.{require◌else◌⨾◌}
use Rattle.chain_command.specs.Fragment.{fragment, fragment_command}
use Rattle.chain_fragment_command.proofs.Parts.{short_part}
use Rattle.chain_fragment_command.proofs.checks.fragment_checks.Goals as goal

pub returns-then-size-gt-MAX_FRAGMENT-clause-answer : goal.returns-then-size-gt-MAX_FRAGMENT-clause-answer
unfolding fragment_command require◌else◌⨾◌
returns-then-size-gt-MAX_FRAGMENT-clause-answer c h = search rules

pub returns-then-field-gt-LONGEST_FIELD-clause-answer : goal.returns-then-field-gt-LONGEST_FIELD-clause-answer
unfolding fragment_command require◌else◌⨾◌
returns-then-field-gt-LONGEST_FIELD-clause-answer c h = search rules

pub returns-then-number-fragment_count-clause-answer : goal.returns-then-number-fragment_count-clause-answer
unfolding fragment_command require◌else◌⨾◌
returns-then-number-fragment_count-clause-answer c h = search rules

pub returns-then-needed-room-clause-answer : goal.returns-then-needed-room-clause-answer
unfolding fragment_command require◌else◌⨾◌ fragment
returns-then-needed-room-clause-answer c h =
    let l = c.apdu_length-needed.ensures h in
    search rules

pub returns-clause-answer : goal.returns-clause-answer
unfolding fragment_command require◌else◌⨾◌ fragment
returns-clause-answer c h =
    let l = c.apdu_length-needed.ensures h in
    search rules

pub returns-clause-short : goal.returns-clause-short
returns-clause-short c = rw c.fragment_part-part.ensures.bytes (short_part _ _ _ c.if-size-gt-MAX_FRAGMENT.false)
