-- Each call that ran left what the definition of its name gives: the arguments stand in the places of their names.
use mathlib.Core.Path.{◌≡◌}
use Rattle.octets.specs.Bytes.{IsBytes}
use Rattle.capi_fragment_command.specs.Call.{pivsm_fragment_command}
use Rattle.capi_reassemble_command.specs.Call.{pivsm_reassemble_command}
use Rattle.capi_fragment_response.specs.Call.{pivsm_fragment_response}
use Rattle.capi_reassemble_response.specs.Call.{pivsm_reassemble_response}
use Rattle.capi_get_response.specs.Call.{pivsm_get_response}
use Rattle.demand_capi_chaining.specs.Calls.{FragmentsCommand, fragment_command_given, fragment_command_left, ReassemblesCommand, reassemble_command_given, reassemble_command_left, FragmentsResponse, fragment_response_given, fragment_response_left, ReassemblesResponse, reassemble_response_given, reassemble_response_left, GetsResponse, get_response_given, get_response_left}

pub fragment_command_named : (c : FragmentsCommand) → fragment_command_left c ≡ pivsm_fragment_command (fragment_command_given c)
fragment_command_named c = c.met

pub reassemble_command_named : (c : ReassemblesCommand) → reassemble_command_left c ≡ pivsm_reassemble_command (reassemble_command_given c)
reassemble_command_named c = c.met.0

pub fragment_response_named : (c : FragmentsResponse) → fragment_response_left c ≡ pivsm_fragment_response (fragment_response_given c)
fragment_response_named c = c.met

pub reassemble_response_named : (c : ReassemblesResponse) → reassemble_response_left c ≡ pivsm_reassemble_response (reassemble_response_given c)
reassemble_response_named c = c.met.0

pub get_response_named : (c : GetsResponse) → get_response_left c ≡ pivsm_get_response (get_response_given c)
get_response_named c = c.met

-- what the types say of the APDUs
pub reassemble_command_bytes : (c : ReassemblesCommand) → IsBytes (reassemble_command_given c).apdu
reassemble_command_bytes c = c.met.1

pub reassemble_response_bytes : (c : ReassemblesResponse) → IsBytes (reassemble_response_given c).apdu
reassemble_response_bytes c = c.met.1
