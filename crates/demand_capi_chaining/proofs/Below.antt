-- The calls from C as calls of the functions below them, with the same arguments: those of demand_chaining.
use mathlib.Core.Path.{refl}
use mathlib.Core.List.{[]}
use denote.Ref.{Bor, MutBor, at_last}
use Rattle.octets.specs.Bytes.{Bytes}
use Rattle.message_answer.specs.Answer.{buffer}
use Rattle.chain_command.specs.Fragment.{fragment_answer}
use Rattle.chain_command.specs.Reassembly.{reassembly_buffer}
use Rattle.chain_response.specs.Fragment.{next, fragment_answer as responseFragmentAnswer}
use Rattle.chain_response.specs.Reassembly.{chain, reassembly_buffer as responseBuffer}
use Rattle.capi_reassemble_command.specs.ChainNumbers.{chain_of}
use Rattle.capi_fragment_command.specs.Call as FragmentCommand
use Rattle.capi_reassemble_command.specs.Call as ReassembleCommand
use Rattle.capi_fragment_response.specs.Call as FragmentResponse
use Rattle.capi_reassemble_response.specs.Call as ReassembleResponse
use Rattle.demand_chaining.specs.Calls.{FragmentsCommand, ReassemblesCommand, FragmentsResponse, ReassemblesResponse}

-- a reference to a value; where it points makes no difference
abbrev pub to : {X : Type 0} → X → Bor X
to x = record { ref_ptr = (0, 0); now = x }

-- the same of a reference that may be written through
abbrev pub lent : {X : Type 0} → X → MutBor X
lent x = record { ref_ptr = (0, 0); ghost_name = 0; now = x }

abbrev pub fragments_command_below : FragmentCommand.Given → FragmentsCommand
fragments_command_below g =
    let a = FragmentCommand.fragmented g in
    record {
      κs = ([], ([], tt));
      args = (g.header, (to g.field, (g.size, (g.number, (lent g.apdu, tt)))));
      result = fragment_answer a;
      exit = (g.header, (to g.field, (g.size, (g.number, (at_last (lent g.apdu) (buffer (λ (b : Bytes). b) g.apdu a), tt)))));
      met = (refl, refl);
    }

abbrev pub reassembles_command_below : ReassembleCommand.Given → ReassemblesCommand
reassembles_command_below g =
    let c = chain_of g.chain in
    record {
      κs = ([], ([], tt));
      args = (c, (to g.apdu, (lent g.field, tt)));
      result = ReassembleCommand.reassembled c g;
      exit = (c, (to g.apdu, (at_last (lent g.field) (reassembly_buffer c g.apdu g.field), tt)));
      met = (refl, refl);
    }

abbrev pub fragments_response_below : FragmentResponse.Given → FragmentsResponse
fragments_response_below g =
    let a = FragmentResponse.fragmented g in
    record {
      κs = ([], ([], tt));
      args = (g.status, (to g.field, (g.at, (g.le, (lent g.apdu, tt)))));
      result = responseFragmentAnswer (next g.field g.at g.le) a;
      exit = (g.status, (to g.field, (g.at, (g.le, (at_last (lent g.apdu) (buffer (λ (b : Bytes). b) g.apdu a), tt)))));
      met = (refl, refl);
    }

abbrev pub reassembles_response_below : ReassembleResponse.Given → ReassemblesResponse
reassembles_response_below g =
    let c = chain g.chain in
    record {
      κs = ([], ([], tt));
      args = (c, (to g.apdu, (lent g.field, tt)));
      result = ReassembleResponse.reassembled g;
      exit = (c, (to g.apdu, (at_last (lent g.field) (responseBuffer c g.apdu g.field), tt)));
      met = (refl, refl);
    }
