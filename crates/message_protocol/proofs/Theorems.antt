-- The demands, of AES with CBC and CMAC. Each statement stands in specs/, in a file of its own.
-- Assumes nothing.
use Rattle.message_ciphers.specs.Aes.{aes_ciphers}
use Rattle.message_ciphers.proofs.AesLaws.{aes_laws}
use Rattle.message_protocol.specs.RefusalKeeps.{RefusalKeeps}
use Rattle.message_protocol.specs.HonestDelivery.{DeliversCommands, DeliversResponses, OpensInStep}
use Rattle.message_protocol.specs.Agreement.{Agreement}
use Rattle.message_protocol.proofs.Refused.{refusal_keeps}
use Rattle.message_protocol.proofs.Delivered.{delivers_commands, delivers_responses, opens_in_step}
use Rattle.message_protocol.proofs.Runs.{agreement}

-- demand 1
pub demand1 : RefusalKeeps aes_ciphers
demand1 = refusal_keeps aes_ciphers

-- demand 2, for commands and for responses; and how it begins
pub demand2_commands : DeliversCommands aes_ciphers
demand2_commands = delivers_commands aes_ciphers aes_laws

pub demand2_responses : DeliversResponses aes_ciphers
demand2_responses = delivers_responses aes_ciphers aes_laws

pub demand2_openings : OpensInStep
demand2_openings = opens_in_step

-- demand 3
pub demand3 : Agreement aes_ciphers
demand3 = agreement aes_ciphers aes_laws
