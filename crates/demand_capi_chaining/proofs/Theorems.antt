-- Demands 1 and 2 of fragmenting and reassembling, of the calls from C. Each statement stands in specs/, in a file of its own.
use Rattle.demand_capi_chaining.specs.RefusalKeeps.{RefusalKeeps, RestKeeps}
use Rattle.demand_capi_chaining.specs.CommandChaining.{ReassemblesCommands}
use Rattle.demand_capi_chaining.specs.ResponseChaining.{ReassemblesResponses}
use Rattle.demand_capi_chaining.proofs.RefusalKept.{refusal_keeps, rest_keeps}
use Rattle.demand_capi_chaining.proofs.CommandChained.{reassembles_commands}
use Rattle.demand_capi_chaining.proofs.ResponseChained.{reassembles_responses}

-- demand 1: a refusal changes no byte of the caller's buffer, and drops the chain
pub demand1 : RefusalKeeps
demand1 = refusal_keeps

pub demand1_rest : RestKeeps
demand1_rest = rest_keeps

-- demand 2: fields come back whole
pub demand2_command_fields : ReassemblesCommands
demand2_command_fields = reassembles_commands

pub demand2_response_fields : ReassemblesResponses
demand2_response_fields = reassembles_responses
