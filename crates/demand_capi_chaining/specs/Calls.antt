-- Calls of fragmenting and reassembling that a program in C made (c/include/pivsm.h). Each is the arguments of the
-- function that the export calls, its result and what its references hold at exit, of which the function's contract holds (`Learnt`, which
-- Rattle generates from the contract and proves of the code). The places of the arguments are counted in `…Given` and
-- `…Left` alone; proofs/Named.antt shows that each stands where the contract has it.
use Rattle.std.specs.Prelude.{ℕ}
use Rattle.demand_calls.specs.Ran.{Ran}
use Rattle.capi_fragment_command.proofs.pivsm_fragment_command.Reads as fragment-command
use Rattle.capi_fragment_command.proofs.pivsm_fragment_command.Kinds as fragment-command-kinds
use Rattle.capi_reassemble_command.proofs.pivsm_reassemble_command.Reads as reassemble-command
use Rattle.capi_reassemble_command.proofs.pivsm_reassemble_command.Kinds as reassemble-command-kinds
use Rattle.capi_fragment_response.proofs.pivsm_fragment_response.Reads as fragment-response
use Rattle.capi_fragment_response.proofs.pivsm_fragment_response.Kinds as fragment-response-kinds
use Rattle.capi_reassemble_response.proofs.pivsm_reassemble_response.Reads as reassemble-response
use Rattle.capi_reassemble_response.proofs.pivsm_reassemble_response.Kinds as reassemble-response-kinds
use Rattle.capi_get_response.proofs.pivsm_get_response.Reads as get-response
use Rattle.capi_get_response.proofs.pivsm_get_response.Kinds as get-response-kinds
use Rattle.capi_fragment_command.specs.Call as FragmentCommand
use Rattle.capi_reassemble_command.specs.Call as ReassembleCommand
use Rattle.capi_fragment_response.specs.Call as FragmentResponse
use Rattle.capi_reassemble_response.specs.Call as ReassembleResponse
use Rattle.capi_get_response.specs.Call as GetResponse

abbrev pub FragmentsCommand : Type 0
FragmentsCommand = Ran 3 fragment-command-kinds.ps fragment-command-kinds.r ℕ fragment-command.Learnt

abbrev pub fragment_command_given : FragmentsCommand → FragmentCommand.Given
fragment_command_given c =
    FragmentCommand.given c.args.0 c.args.1.0 c.args.1.1.0 c.args.1.1.1.0.now
    c.args.1.1.1.1.0 c.args.1.1.1.1.1.0 c.args.1.1.1.1.1.1.0.now

abbrev pub fragment_command_left : FragmentsCommand → FragmentCommand.Left
fragment_command_left c =
    FragmentCommand.left c.result c.exit.1.1.1.1.1.1.0.now c.exit.1.1.1.1.1.1.1.0.now

abbrev pub ReassemblesCommand : Type 0
ReassemblesCommand = Ran 8 reassemble-command-kinds.ps reassemble-command-kinds.r ℕ reassemble-command.Learnt

abbrev pub reassemble_command_given : ReassemblesCommand → ReassembleCommand.Given
reassemble_command_given c =
    ReassembleCommand.given c.args.0.now c.args.1.0.now c.args.1.1.0.now

abbrev pub reassemble_command_left : ReassemblesCommand → ReassembleCommand.Left
reassemble_command_left c =
    ReassembleCommand.left c.result c.exit.0.now c.exit.1.1.0.now c.exit.1.1.1.0.now
    c.exit.1.1.1.1.0.now c.exit.1.1.1.1.1.0.now c.exit.1.1.1.1.1.1.0.now
    c.exit.1.1.1.1.1.1.1.0.now

abbrev pub FragmentsResponse : Type 0
FragmentsResponse = Ran 4 fragment-response-kinds.ps fragment-response-kinds.r ℕ fragment-response.Learnt

abbrev pub fragment_response_given : FragmentsResponse → FragmentResponse.Given
fragment_response_given c =
    FragmentResponse.given c.args.0 c.args.1.0.now c.args.1.1.0 c.args.1.1.1.0
    c.args.1.1.1.1.0.now

abbrev pub fragment_response_left : FragmentsResponse → FragmentResponse.Left
fragment_response_left c =
    FragmentResponse.left c.result c.exit.1.1.1.1.0.now c.exit.1.1.1.1.1.0.now
    c.exit.1.1.1.1.1.1.0.now

abbrev pub ReassemblesResponse : Type 0
ReassemblesResponse = Ran 5 reassemble-response-kinds.ps reassemble-response-kinds.r ℕ reassemble-response.Learnt

abbrev pub reassemble_response_given : ReassemblesResponse → ReassembleResponse.Given
reassemble_response_given c =
    ReassembleResponse.given c.args.0.now c.args.1.0.now c.args.1.1.0.now

abbrev pub reassemble_response_left : ReassemblesResponse → ReassembleResponse.Left
reassemble_response_left c =
    ReassembleResponse.left c.result c.exit.0.now c.exit.1.1.0.now c.exit.1.1.1.0.now
    c.exit.1.1.1.1.0.now

abbrev pub GetsResponse : Type 0
GetsResponse = Ran 2 get-response-kinds.ps get-response-kinds.r ℕ get-response.Learnt

abbrev pub get_response_given : GetsResponse → GetResponse.Given
get_response_given c = GetResponse.given c.args.0 c.args.1.0.now

abbrev pub get_response_left : GetsResponse → GetResponse.Left
get_response_left c = GetResponse.left c.result c.exit.1.0.now c.exit.1.1.0.now
