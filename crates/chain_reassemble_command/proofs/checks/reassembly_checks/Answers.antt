-- `reassembly_checks` meets its contract: one test after the other.
use Rattle.std.proofs.Common.{rules}
use native.Mathlib.Omega.{arith}
use Rattle.octets.proofs.Tests.{outcome}
use Rattle.message_answer.specs.Answer.{require◌else◌⨾◌}
use Rattle.chain_command.specs.Reassembly.{reassembly_checks}
use Rattle.chain_reassemble_command.proofs.Shapes.{holds_data}
use Rattle.chain_reassemble_command.proofs.CommandCases.{possible_short}
use Rattle.chain_reassemble_command.proofs.checks.reassembly_checks.Goals as goal

pub returns-then-not-well_formed : goal.returns-then-not-well_formed
unfolding reassembly_checks require◌else◌⨾◌
returns-then-not-well_formed c = search rules

pub header_of-requires : goal.header_of-requires
header_of-requires c = omega (arith, holds_data _ (outcome _ c.well_formed-2.ensures c.if-not-well_formed.false))

pub returns-then-not-continues : goal.returns-then-not-continues
unfolding reassembly_checks require◌else◌⨾◌
returns-then-not-continues c = search rules

pub lc-requires : goal.lc-requires
lc-requires c = omega (arith, holds_data _ (outcome _ c.well_formed-2.ensures c.if-not-well_formed.false))

pub overflow_add-needed : goal.overflow_add-needed
overflow_add-needed c = search (rules, possible_short)

pub returns-then-needed-gt-MAX_COMMAND_FIELD : goal.returns-then-needed-gt-MAX_COMMAND_FIELD
unfolding reassembly_checks require◌else◌⨾◌
returns-then-needed-gt-MAX_COMMAND_FIELD c = search rules

pub returns-then-needed-room : goal.returns-then-needed-room
unfolding reassembly_checks require◌else◌⨾◌
returns-then-needed-room c = search rules

pub returns : goal.returns
unfolding reassembly_checks require◌else◌⨾◌
returns c = search rules
