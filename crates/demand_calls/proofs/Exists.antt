-- Every call with arguments of its types is an event: what the definition says, and the buffer that it leaves, meet the generated contract. So
-- the demands are about something, whatever the arguments.
-- Assumes nothing.
use mathlib.Core.Path.{refl}
use lib.ListN.{length}
use contract.Lifetimes.{Lfts}
use denote.Ref.{at_last}
use borrow.Fn.Kinds.{Dens}
use Rattle.octets.specs.Bytes.{Bytes, IsBytes}
use Rattle.session.specs.Session.{closed}
use Rattle.session.proofs.Session.close.Kinds as close-session-kinds
use Rattle.message_wrap_command.proofs.wrap_command.Kinds as wrap-command-kinds
use Rattle.message_unwrap_command.proofs.unwrap_command.Kinds as unwrap-command-kinds
use Rattle.message_wrap_response.proofs.wrap_response.Kinds as wrap-response-kinds
use Rattle.message_unwrap_response.proofs.unwrap_response.Kinds as unwrap-response-kinds
use Rattle.message_answer.specs.Message.{Response, CommandGiven}
use Rattle.message_answer.specs.Answer.{buffer}
use Rattle.message_protocol.specs.HonestDelivery.{Keyed}
use Rattle.message_result.specs.Results.{wrap_result, command_result, response_result}
use Rattle.message_wrap_command.specs.WrapCommand.{wrap_command}
use Rattle.message_unwrap_command.specs.UnwrapCommand.{unwrap_command}
use Rattle.message_wrap_response.specs.WrapResponse.{wrap_response}
use Rattle.message_unwrap_response.specs.UnwrapResponse.{unwrap_response}
use Rattle.demand_calls.specs.Calls.{WrapsCommand, UnwrapsCommand, WrapsResponse, UnwrapsResponse, Closes}

pub closes_runs : (κs : Lfts 0) (args : Dens κs close-session-kinds.ps) → Closes
closes_runs κs args = record { κs = κs; args = args; result = closed args.0; exit = (args.0, tt); met = refl }

pub wraps_command_runs : (κs : Lfts 2) (args : Dens κs wrap-command-kinds.ps) → IsBytes args.1.1.1.0.now → Keyed args.0 → WrapsCommand
wraps_command_runs κs args b k =
    let out = args.1.1.1.1.0 in
    let o = wrap_command args.0 args.1.0 args.1.1.0 args.1.1.1.0.now (length out.now) in
    record {
      κs = κs;
      args = args;
      result = wrap_result o;
      exit = (args.0, (args.1.0, (args.1.1.0, (args.1.1.1.0, (at_last out (buffer (λ (f : Bytes). f) out.now o.answer), tt)))));
      met = (refl, (refl, (b, k)));
    }

pub unwraps_command_runs : (κs : Lfts 2) (args : Dens κs unwrap-command-kinds.ps) → UnwrapsCommand
unwraps_command_runs κs args =
    let out = args.1.1.1.0 in
    let o = unwrap_command args.0 args.1.0 args.1.1.0.now (length out.now) in
    record {
      κs = κs;
      args = args;
      result = command_result o;
      exit = (args.0, (args.1.0, (args.1.1.0, (at_last out (buffer (λ (g : CommandGiven). g.payload) out.now o.answer), tt))));
      met = (refl, refl);
    }

pub wraps_response_runs : (κs : Lfts 2) (args : Dens κs wrap-response-kinds.ps) → IsBytes args.1.1.0.now → Keyed args.0 → WrapsResponse
wraps_response_runs κs args b k =
    let out = args.1.1.1.0 in
    let o = wrap_response args.0 args.1.0 args.1.1.0.now (length out.now) in
    record {
      κs = κs;
      args = args;
      result = wrap_result o;
      exit = (args.0, (args.1.0, (args.1.1.0, (at_last out (buffer (λ (f : Bytes). f) out.now o.answer), tt))));
      met = (refl, (refl, (b, k)));
    }

pub unwraps_response_runs : (κs : Lfts 2) (args : Dens κs unwrap-response-kinds.ps) → UnwrapsResponse
unwraps_response_runs κs args =
    let out = args.1.1.1.0 in
    let o = unwrap_response args.0 args.1.0 args.1.1.0.now (length out.now) in
    record {
      κs = κs;
      args = args;
      result = response_result o;
      exit = (args.0, (args.1.0, (args.1.1.0, (at_last out (buffer (λ (m : Response). m.payload) out.now o.answer), tt))));
      met = (refl, refl);
    }
