-- `wrap_response_checks` meets its contract: one test after the other.
use native.Mathlib.Omega.{arith}
use Rattle.std.proofs.lemmas.Grind.{common_steps}
use mathlib.Core.Path.{refl}
use Rattle.octets.proofs.Tests.{outcome}
use Rattle.session_rules.specs.Valid.{counts_as_open}
use Rattle.session_rules.proofs.KeepsTheRules.{served_by_phase}
use Rattle.message_answer.specs.Answer.{require◌else◌⨾◌}
use Rattle.message_protocol.specs.Response.{wrap_response_checks}
use Rattle.message_wrap_response.proofs.checks.wrap_response_checks.Goals as goal
use Rattle.message_wrap_response.proofs.checks.wrap_response_checks.Goals.{then-not-is_open-via-then-not-is_open, then-not-is_open-via-else-not-is_open+then-not-valid}

pub returns-then-not-is_open : goal.returns-then-not-is_open
unfolding wrap_response_checks require◌else◌⨾◌ counts_as_open
returns-then-not-is_open c = elim c.then-not-is_open.branch [
  | then-not-is_open-via-then-not-is_open w ↦ rw (outcome _ c.is_open.ensures w.if-not-is_open.true) refl
  | then-not-is_open-via-else-not-is_open+then-not-valid w ↦
      rw (outcome _ c.is_open.ensures w.if-not-is_open.false) (rw (outcome _ w.valid.ensures w.if-not-valid.true) refl)
]

pub returns-then-not-is_turn : goal.returns-then-not-is_turn
unfolding wrap_response_checks require◌else◌⨾◌
returns-then-not-is_turn c = grind (arith, common_steps, served_by_phase)

pub returns-then-not-status_permitted : goal.returns-then-not-status_permitted
unfolding wrap_response_checks require◌else◌⨾◌
returns-then-not-status_permitted c = grind (arith, common_steps, served_by_phase)

pub returns-then-n-gt-MAX_RESPONSE_DATA : goal.returns-then-n-gt-MAX_RESPONSE_DATA
unfolding wrap_response_checks require◌else◌⨾◌
returns-then-n-gt-MAX_RESPONSE_DATA c = grind (arith, common_steps, served_by_phase)

pub returns-then-needed-room : goal.returns-then-needed-room
unfolding wrap_response_checks require◌else◌⨾◌
returns-then-needed-room c = grind (arith, common_steps, served_by_phase)

pub returns : goal.returns
unfolding wrap_response_checks require◌else◌⨾◌
returns c = grind (arith, common_steps, served_by_phase)
