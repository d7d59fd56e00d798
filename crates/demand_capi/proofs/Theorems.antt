-- The demands, of the calls from C. Each statement stands in specs/, in a file of its own.
use Rattle.demand_capi.specs.RefusalKeeps.{RefusalKeeps, SixteenExactly, RestKeeps, HostOpeningRefuses, CardOpeningRefuses}
use Rattle.demand_capi.specs.Agreement.{Agreement, ExceptionNoWider}
use Rattle.demand_capi.proofs.RefusalKept.{refusal_keeps, sixteen_exactly, rest_keeps, host_opening_refuses, card_opening_refuses}
use Rattle.demand_capi.specs.HonestDelivery.{DeliversCommands, DeliversResponses, OpensInStep}
use Rattle.demand_capi.specs.Exists.{GoesOn}
use Rattle.demand_capi.proofs.Runs.{agreement, exception_no_wider}
use Rattle.demand_capi.proofs.Delivered.{delivers_commands, delivers_responses, opens_in_step}
use Rattle.demand_capi.proofs.GoesOn.{goes_on}

-- demand 1
pub demand1 : RefusalKeeps
demand1 = refusal_keeps

pub demand1_sixteen : SixteenExactly
demand1_sixteen = sixteen_exactly

pub demand1_rest : RestKeeps
demand1_rest = rest_keeps

pub demand1_host_opening : HostOpeningRefuses
demand1_host_opening = host_opening_refuses

pub demand1_card_opening : CardOpeningRefuses
demand1_card_opening = card_opening_refuses

-- demand 2, for commands and for responses; and how it begins
pub demand2_commands : DeliversCommands
demand2_commands = delivers_commands

pub demand2_responses : DeliversResponses
demand2_responses = delivers_responses

pub demand2_openings : OpensInStep
demand2_openings = opens_in_step

-- demand 3, and that no call of such a list is answered 16, or 1 at an end that was not closed
pub demand3 : Agreement
demand3 = agreement

pub demand3_exception : ExceptionNoWider
demand3_exception = exception_no_wider

-- such lists go on with every call
pub traces_go_on : GoesOn
traces_go_on = goes_on
