-- Calls of fragmenting and reassembling that ran: a function's arguments, its result and what its references hold at exit, of which its contract holds
-- (`Learnt`, which Rattle generates from the contract and proves of the code). Assumes nothing.
use Rattle.std.specs.Prelude.{[], ℕ, take, Result, Ok, Err}
use Rattle.chain_fragment_command.proofs.fragment_command.Reads as fragment-command
use Rattle.chain_fragment_command.proofs.fragment_command.Kinds as fragment-command-kinds
use Rattle.chain_reassemble_command.proofs.reassemble_command.Reads as reassemble-command
use Rattle.chain_reassemble_command.proofs.reassemble_command.Kinds as reassemble-command-kinds
use Rattle.chain_fragment_response.proofs.fragment_response.Reads as fragment-response
use Rattle.chain_fragment_response.proofs.fragment_response.Kinds as fragment-response-kinds
use Rattle.chain_reassemble_response.proofs.reassemble_response.Reads as reassemble-response
use Rattle.chain_reassemble_response.proofs.reassemble_response.Kinds as reassemble-response-kinds
use Rattle.demand_calls.specs.Ran.{Ran}
use Rattle.octets.specs.Bytes.{Bytes}
use Rattle.apdu.specs.declared.Header.{Header}
use Rattle.apdu.specs.declared.StatusWord.{StatusWord}
use Rattle.refusal.specs.declared.Refusal.{Refusal}
use Rattle.chain_command.specs.Reassembly.{Reassembly}
use Rattle.chain_command.specs.declared.CommandChain.{CommandChain}
use Rattle.chain_response.specs.Reassembly.{ResponseReassembly}
use Rattle.chain_response.specs.declared.ResponseChain.{ResponseChain}
use Rattle.chain_response.specs.declared.ResponseFragment.{ResponseFragment}

-- fragment_command(header, field, size, number, out)
abbrev pub FragmentsCommand : Type 0
FragmentsCommand = Ran 2 fragment-command-kinds.ps fragment-command-kinds.r (Result ℕ Refusal) fragment-command.Learnt

-- reassemble_command(chain, apdu, out)
abbrev pub ReassemblesCommand : Type 0
ReassemblesCommand = Ran 2 reassemble-command-kinds.ps reassemble-command-kinds.r Reassembly reassemble-command.Learnt

-- fragment_response(status, field, at, le, out)
abbrev pub FragmentsResponse : Type 0
FragmentsResponse = Ran 2 fragment-response-kinds.ps fragment-response-kinds.r (Result ResponseFragment Refusal) fragment-response.Learnt

-- reassemble_response(chain, bytes, out)
abbrev pub ReassemblesResponse : Type 0
ReassemblesResponse = Ran 2 reassemble-response-kinds.ps reassemble-response-kinds.r ResponseReassembly reassemble-response.Learnt

-- ---- the arguments, and the caller's buffer before and after

abbrev pub header_given : FragmentsCommand → Header
header_given f = f.args.0

abbrev pub field_given : FragmentsCommand → Bytes
field_given f = f.args.1.0.now

abbrev pub size_asked : FragmentsCommand → ℕ
size_asked f = f.args.1.1.0

abbrev pub number_asked : FragmentsCommand → ℕ
number_asked f = f.args.1.1.1.0

abbrev pub fragment_before : FragmentsCommand → Bytes
fragment_before f = f.args.1.1.1.1.0.now

abbrev pub fragment_after : FragmentsCommand → Bytes
fragment_after f = f.exit.1.1.1.1.0.now

abbrev pub chain_given : ReassemblesCommand → CommandChain
chain_given r = r.args.0

abbrev pub apdu_given : ReassemblesCommand → Bytes
apdu_given r = r.args.1.0.now

abbrev pub field_before : ReassemblesCommand → Bytes
field_before r = r.args.1.1.0.now

abbrev pub field_after : ReassemblesCommand → Bytes
field_after r = r.exit.1.1.0.now

-- ---- what a call gave

-- the APDU: the number of bytes that the result names, from the start of the buffer
abbrev pub apdu_in : Result ℕ Refusal → Bytes → Bytes
apdu_in (Ok n) out = take n out
apdu_in (Err r) out = []

abbrev pub apdu : FragmentsCommand → Bytes
apdu f = apdu_in f.result (fragment_after f)

-- ---- the same of a response

abbrev pub status_given : FragmentsResponse → StatusWord
status_given f = f.args.0

abbrev pub response_field_given : FragmentsResponse → Bytes
response_field_given f = f.args.1.0.now

abbrev pub index_asked : FragmentsResponse → ℕ
index_asked f = f.args.1.1.0

abbrev pub le_asked : FragmentsResponse → ℕ
le_asked f = f.args.1.1.1.0

abbrev pub response_fragment_before : FragmentsResponse → Bytes
response_fragment_before f = f.args.1.1.1.1.0.now

abbrev pub response_fragment_after : FragmentsResponse → Bytes
response_fragment_after f = f.exit.1.1.1.1.0.now

abbrev pub response_chain_given : ReassemblesResponse → ResponseChain
response_chain_given r = r.args.0

abbrev pub bytes_given : ReassemblesResponse → Bytes
bytes_given r = r.args.1.0.now

abbrev pub response_field_before : ReassemblesResponse → Bytes
response_field_before r = r.args.1.1.0.now

abbrev pub response_field_after : ReassemblesResponse → Bytes
response_field_after r = r.exit.1.1.0.now

abbrev pub bytes_in : Result ResponseFragment Refusal → Bytes → Bytes
bytes_in (Ok f) out = take f.len out
bytes_in (Err r) out = []

abbrev pub bytes : FragmentsResponse → Bytes
bytes f = bytes_in f.result (response_fragment_after f)

-- the index that it gave for the next fragment
abbrev pub next_in : Result ResponseFragment Refusal → ℕ
next_in (Ok f) = f.next
next_in (Err r) = 0
