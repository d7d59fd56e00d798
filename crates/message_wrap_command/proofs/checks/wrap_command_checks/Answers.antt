-- `wrap_command_checks` meets its contract: one test after the other.
use native.Mathlib.Omega.{arith}
use Rattle.std.proofs.lemmas.Grind.{common_steps}
use mathlib.Core.Path.{refl}
use Rattle.octets.proofs.Tests.{outcome}
use Rattle.session_rules.specs.Valid.{counts_as_open}
use Rattle.session_rules.proofs.KeepsTheRules.{served_by_phase}
use Rattle.message_answer.specs.Answer.{require◌else◌⨾◌}
use Rattle.message_protocol.specs.Command.{wrap_command_checks}
use Rattle.message_wrap_command.proofs.checks.wrap_command_checks.Goals as goal
use Rattle.message_wrap_command.proofs.checks.wrap_command_checks.Goals.{then-not-is_open-via-then-not-is_open, then-not-is_open-via-else-not-is_open+then-not-valid}

pub returns-then-not-is_open : goal.returns-then-not-is_open
unfolding wrap_command_checks require◌else◌⨾◌ counts_as_open
returns-then-not-is_open c = elim c.then-not-is_open.branch [
  | then-not-is_open-via-then-not-is_open w ↦ rw (outcome _ c.is_open.ensures w.if-not-is_open.true) refl
  | then-not-is_open-via-else-not-is_open+then-not-valid w ↦
      rw (outcome _ c.is_open.ensures w.if-not-is_open.false) (rw (outcome _ w.valid.ensures w.if-not-valid.true) refl)
]

pub returns-then-not-is_turn : goal.returns-then-not-is_turn
unfolding wrap_command_checks require◌else◌⨾◌
returns-then-not-is_turn c = grind (arith, common_steps, served_by_phase)

pub returns-then-not-command_permitted : goal.returns-then-not-command_permitted
unfolding wrap_command_checks require◌else◌⨾◌
returns-then-not-command_permitted c = grind (arith, common_steps, served_by_phase)

pub returns-then-n-gt-MAX_COMMAND_DATA : goal.returns-then-n-gt-MAX_COMMAND_DATA
unfolding wrap_command_checks require◌else◌⨾◌
returns-then-n-gt-MAX_COMMAND_DATA c = grind (arith, common_steps, served_by_phase)

pub returns-then-session-ge-COMMAND_LIMIT : goal.returns-then-session-ge-COMMAND_LIMIT
unfolding wrap_command_checks require◌else◌⨾◌
returns-then-session-ge-COMMAND_LIMIT c = grind (arith, common_steps, served_by_phase)

pub returns-then-needed-room : goal.returns-then-needed-room
unfolding wrap_command_checks require◌else◌⨾◌
returns-then-needed-room c = grind (arith, common_steps, served_by_phase)

pub returns : goal.returns
unfolding wrap_command_checks require◌else◌⨾◌
returns c = grind (arith, common_steps, served_by_phase)
