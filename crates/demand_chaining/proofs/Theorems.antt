-- Demands 1 and 2 of fragmenting and reassembling, of the functions that run. Each statement stands in specs/, in a file of its own.
-- Assumes nothing.
use Rattle.demand_chaining.specs.RefusalKeeps.{RefusalKeeps, RestKeeps}
use Rattle.demand_chaining.specs.CommandChaining.{ReassemblesCommands}
use Rattle.demand_chaining.specs.ResponseChaining.{ReassemblesResponses}
use Rattle.demand_chaining.specs.ChainedCommand.{DeliversChainedCommands}
use Rattle.demand_chaining.specs.ChainedResponse.{DeliversChainedResponses}
use Rattle.demand_chaining.specs.HonestExchanges.{HonestExchanges}
use Rattle.demand_chaining.proofs.RefusalKept.{refusal_keeps}
use Rattle.demand_chaining.proofs.RestKept.{rest_keeps}
use Rattle.demand_chaining.proofs.CommandChained.{reassembles_commands}
use Rattle.demand_chaining.proofs.ResponseChained.{reassembles_responses}
use Rattle.demand_chaining.proofs.CommandArrived.{delivers_chained_commands}
use Rattle.demand_chaining.proofs.ResponseArrived.{delivers_chained_responses}
use Rattle.demand_chaining.proofs.ExchangesArrived.{honest_exchanges}

-- demand 1: a refusal changes no byte of the caller's buffer, and drops the chain
pub demand1 : RefusalKeeps
demand1 = refusal_keeps

pub demand1_rest : RestKeeps
demand1_rest = rest_keeps

-- demand 2: fields come back whole
pub demand2_command_fields : ReassemblesCommands
demand2_command_fields = reassembles_commands

pub demand2_response_fields : ReassemblesResponses
demand2_response_fields = reassembles_responses

-- messages that are carried in fragments arrive
pub demand2_commands : DeliversChainedCommands
demand2_commands = delivers_chained_commands

pub demand2_responses : DeliversChainedResponses
demand2_responses = delivers_chained_responses

-- and so do those of every list of honest exchanges
pub demand2_exchanges : HonestExchanges
demand2_exchanges = honest_exchanges
