-- The demands, of the functions that run. Each statement stands in specs/, in a file of its own.
-- Assumes nothing.
use Rattle.demand_calls.specs.RefusalKeeps.{RefusalKeeps, RestKeeps, HostOpeningRefuses, CardOpeningRefuses}
use Rattle.demand_calls.specs.HonestDelivery.{DeliversCommands, DeliversResponses, OpensInStep}
use Rattle.demand_calls.specs.Agreement.{Agreement, ExceptionNoWider}
use Rattle.demand_calls.proofs.RefusalKept.{refusal_keeps, rest_keeps, host_opening_refuses, card_opening_refuses}
use Rattle.demand_calls.proofs.Delivered.{delivers_commands, delivers_responses, opens_in_step}
use Rattle.demand_calls.proofs.Runs.{agreement, excepted_back}

-- demand 1: the five calls, and the openings
pub demand1 : RefusalKeeps
demand1 = refusal_keeps

pub demand1_rest : RestKeeps
demand1_rest = rest_keeps

pub demand1_host_opening : HostOpeningRefuses
demand1_host_opening = host_opening_refuses

pub demand1_card_opening : CardOpeningRefuses
demand1_card_opening = card_opening_refuses

-- demand 2, for commands and for responses; and how it begins
pub demand2_commands : DeliversCommands
demand2_commands = delivers_commands

pub demand2_responses : DeliversResponses
demand2_responses = delivers_responses

pub demand2_openings : OpensInStep
demand2_openings = opens_in_step

-- demand 3
pub demand3 : Agreement
demand3 = agreement

pub demand3_exception : ExceptionNoWider
demand3_exception = excepted_back
