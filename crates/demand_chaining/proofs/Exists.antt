-- Every call with arguments of its types is an event: what the definition says, and the buffer that it leaves, meet the generated contract. So the demands
-- are about something, whatever the arguments.
-- Assumes nothing.
use mathlib.Core.Path.{refl}
use lib.ListN.{length}
use contract.Lifetimes.{Lfts}
use denote.Ref.{at_last}
use borrow.Fn.Kinds.{Dens}
use Rattle.octets.specs.Bytes.{Bytes}
use Rattle.message_answer.specs.Answer.{buffer}
use Rattle.chain_fragment_command.proofs.fragment_command.Kinds as fragment-command-kinds
use Rattle.chain_reassemble_command.proofs.reassemble_command.Kinds as reassemble-command-kinds
use Rattle.chain_fragment_response.proofs.fragment_response.Kinds as fragment-response-kinds
use Rattle.chain_reassemble_response.proofs.reassemble_response.Kinds as reassemble-response-kinds
use Rattle.chain_command.specs.Fragment.{fragment_command, fragment_answer}
use Rattle.chain_command.specs.Reassembly.{reassemble_command, reassembly_buffer}
use Rattle.chain_response.specs.Fragment.{next, fragment_response, fragment_answer as responseFragmentAnswer}
use Rattle.chain_response.specs.Reassembly.{reassemble_response, reassembly_buffer as responseBuffer}
use Rattle.demand_chaining.specs.Calls.{FragmentsCommand, ReassemblesCommand, FragmentsResponse, ReassemblesResponse}

pub fragments_command_runs : (κs : Lfts 2) (args : Dens κs fragment-command-kinds.ps) → FragmentsCommand
fragments_command_runs κs args =
    let out = args.1.1.1.1.0 in
    let a = fragment_command args.0 args.1.0.now args.1.1.0 args.1.1.1.0 (length out.now) in
    record {
      κs = κs;
      args = args;
      result = fragment_answer a;
      exit = (args.0, (args.1.0, (args.1.1.0, (args.1.1.1.0, (at_last out (buffer (λ (b : Bytes). b) out.now a), tt)))));
      met = (refl, refl);
    }

pub reassembles_command_runs : (κs : Lfts 2) (args : Dens κs reassemble-command-kinds.ps) → ReassemblesCommand
reassembles_command_runs κs args =
    let out = args.1.1.0 in
    record {
      κs = κs;
      args = args;
      result = reassemble_command args.0 args.1.0.now (length out.now);
      exit = (args.0, (args.1.0, (at_last out (reassembly_buffer args.0 args.1.0.now out.now), tt)));
      met = (refl, refl);
    }

pub fragments_response_runs : (κs : Lfts 2) (args : Dens κs fragment-response-kinds.ps) → FragmentsResponse
fragments_response_runs κs args =
    let out = args.1.1.1.1.0 in
    let a = fragment_response args.0 args.1.0.now args.1.1.0 args.1.1.1.0 (length out.now) in
    record {
      κs = κs;
      args = args;
      result = responseFragmentAnswer (next args.1.0.now args.1.1.0 args.1.1.1.0) a;
      exit = (args.0, (args.1.0, (args.1.1.0, (args.1.1.1.0, (at_last out (buffer (λ (b : Bytes). b) out.now a), tt)))));
      met = (refl, refl);
    }

pub reassembles_response_runs : (κs : Lfts 2) (args : Dens κs reassemble-response-kinds.ps) → ReassemblesResponse
reassembles_response_runs κs args =
    let out = args.1.1.0 in
    record {
      κs = κs;
      args = args;
      result = reassemble_response args.0 args.1.0.now (length out.now);
      exit = (args.0, (args.1.0, (at_last out (responseBuffer args.0 args.1.0.now out.now), tt)));
      met = (refl, refl);
    }
