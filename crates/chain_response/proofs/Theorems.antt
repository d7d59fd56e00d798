-- What holds of response chaining, of the definitions. Each statement stands in specs/Chains.
use Rattle.chain_response.specs.Chains.{ExactShapes, WrittenAreWellFormed, Reassembles, ReachedArePossible, PossibleAreReached, LeavesPossible, OthersAreRefused}
use Rattle.chain_response.proofs.ExactShapes.{exact-shapes, written-are-well-formed}
use Rattle.chain_response.proofs.WholeResponse.{reassembles}
use Rattle.chain_response.proofs.PossibleChains.{leaves-possible, reached-are-possible, possible-are-reached, others-are-refused}

pub shapes : ExactShapes
shapes = exact-shapes

pub shapes-written : WrittenAreWellFormed
shapes-written = written-are-well-formed

pub whole-response : Reassembles
whole-response = reassembles

pub leaves : LeavesPossible
leaves = leaves-possible

pub reached-possible : ReachedArePossible
reached-possible = reached-are-possible

pub possible-reached : PossibleAreReached
possible-reached = possible-are-reached

pub others-refused : OthersAreRefused
others-refused = others-are-refused
