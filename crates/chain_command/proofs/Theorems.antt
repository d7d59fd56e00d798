-- What holds of command chaining, of the definitions. Each statement stands in specs/Chains.
use Rattle.chain_command.specs.Chains.{ExactShapes, WrittenAreWellFormed, Reassembles, ReachedArePossible, PossibleAreReached, LeavesPossible, OthersAreRefused}
use Rattle.chain_command.proofs.ExactShapes.{exact_shapes, written_are_well_formed}
use Rattle.chain_command.proofs.WholeCommand.{reassembles}
use Rattle.chain_command.proofs.PossibleChains.{leaves_possible, reached_are_possible, possible_are_reached, others_are_refused}

pub shapes : ExactShapes
shapes = exact_shapes

pub shapes_written : WrittenAreWellFormed
shapes_written = written_are_well_formed

pub whole_command : Reassembles
whole_command = reassembles

pub leaves : LeavesPossible
leaves = leaves_possible

pub reached_possible : ReachedArePossible
reached_possible = reached_are_possible

pub possible_reached : PossibleAreReached
possible_reached = possible_are_reached

pub others_refused : OthersAreRefused
others_refused = others_are_refused
