-- Calls that a program in C made (c/include/pivsm.h). Each is the arguments of the function that the export calls, its
-- result and what its references hold at exit, of which the function's contract holds (`Learnt`, which Rattle generates from the
-- contract and proves of the code). The places of the arguments are counted in `…Given` and `…Left` alone;
-- proofs/Named.antt shows that each stands where the contract has it, and where every call from C has it.
use Rattle.std.specs.Prelude.{ℕ, zero, suc, length, take}
use Rattle.capi_open.proofs.pivsm_open_host.Reads as open-host
use Rattle.capi_open.proofs.pivsm_open_host.Kinds as open-host-kinds
use Rattle.capi_open.proofs.pivsm_open_card.Reads as open-card
use Rattle.capi_open.proofs.pivsm_open_card.Kinds as open-card-kinds
use Rattle.capi_close.proofs.pivsm_close.Reads as close
use Rattle.capi_close.proofs.pivsm_close.Kinds as close-kinds
use Rattle.capi_wrap_command.proofs.pivsm_wrap_command.Reads as wrap-command
use Rattle.capi_wrap_command.proofs.pivsm_wrap_command.Kinds as wrap-command-kinds
use Rattle.capi_unwrap_command.proofs.pivsm_unwrap_command.Reads as unwrap-command
use Rattle.capi_unwrap_command.proofs.pivsm_unwrap_command.Kinds as unwrap-command-kinds
use Rattle.capi_wrap_response.proofs.pivsm_wrap_response.Reads as wrap-response
use Rattle.capi_wrap_response.proofs.pivsm_wrap_response.Kinds as wrap-response-kinds
use Rattle.capi_unwrap_response.proofs.pivsm_unwrap_response.Reads as unwrap-response
use Rattle.capi_unwrap_response.proofs.pivsm_unwrap_response.Kinds as unwrap-response-kinds
use Rattle.capi_open.specs.Call as Open
use Rattle.capi_close.specs.Call as Close
use Rattle.capi_wrap_command.specs.Call as WrapCommand
use Rattle.capi_unwrap_command.specs.Call as UnwrapCommand
use Rattle.capi_wrap_response.specs.Call as WrapResponse
use Rattle.capi_unwrap_response.specs.Call as UnwrapResponse
use Rattle.demand_calls.specs.Ran.{Ran}
use Rattle.octets.specs.Bytes.{Bytes}
use Rattle.refusal.specs.declared.Refusal.TheVariants.{BadSession}
use Rattle.session.specs.declared.Side.{Side}
use Rattle.message_answer.specs.Answer.{Answer, refused, gave}
use Rattle.message_protocol.specs.Transcript.{Call, wrap_command, unwrap_command, wrap_response, unwrap_response, close, Gives}
use Rattle.apdu.specs.Apdu.{status_of}
use Rattle.capi_session.specs.SessionBytes.{Held}

-- ---- openings

abbrev pub OpensHost : Type 0
OpensHost = Ran 5 open-host-kinds.ps open-host-kinds.r ℕ open-host.Learnt

abbrev pub OpensCard : Type 0
OpensCard = Ran 5 open-card-kinds.ps open-card-kinds.r ℕ open-card.Learnt

abbrev pub open_host_given : OpensHost → Open.Given
open_host_given c =
    Open.given c.args.0 c.args.1.0.now c.args.1.1.0.now c.args.1.1.1.0.now
    c.args.1.1.1.1.0.now

abbrev pub open_host_left : OpensHost → Open.Left
open_host_left c = Open.left c.result c.exit.1.1.1.1.0.now c.exit.1.1.1.1.1.0.now

abbrev pub open_card_given : OpensCard → Open.Given
open_card_given c =
    Open.given c.args.0 c.args.1.0.now c.args.1.1.0.now c.args.1.1.1.0.now
    c.args.1.1.1.1.0.now

abbrev pub open_card_left : OpensCard → Open.Left
open_card_left c = Open.left c.result c.exit.1.1.1.1.0.now c.exit.1.1.1.1.1.0.now

-- the bytes of the session that was opened
abbrev pub opened : Open.Left → Bytes
opened l = take l.len l.session

-- ---- the five calls

abbrev pub Closes : Type 0
Closes = Ran 2 close-kinds.ps close-kinds.r ℕ close.Learnt

abbrev pub close_given : Closes → Close.Given
close_given c = Close.given c.args.0.now c.args.1.0.now

abbrev pub close_left : Closes → Close.Left
close_left c = Close.left c.result c.exit.0.now c.exit.1.0.now

abbrev pub WrapsCommand : Type 0
WrapsCommand = Ran 5 wrap-command-kinds.ps wrap-command-kinds.r ℕ wrap-command.Learnt

abbrev pub wrap_command_given : WrapsCommand → WrapCommand.Given
wrap_command_given c =
    WrapCommand.given c.args.0.now c.args.1.0.now c.args.1.1.0 c.args.1.1.1.0
    c.args.1.1.1.1.0
    c.args.1.1.1.1.1.0 c.args.1.1.1.1.1.1.0.now c.args.1.1.1.1.1.1.1.0.now

abbrev pub wrap_command_left : WrapsCommand → WrapCommand.Left
wrap_command_left c =
    WrapCommand.left c.result c.exit.0.now c.exit.1.0.now c.exit.1.1.1.1.1.1.1.0.now
    c.exit.1.1.1.1.1.1.1.1.0.now

abbrev pub UnwrapsCommand : Type 0
UnwrapsCommand = Ran 6 unwrap-command-kinds.ps unwrap-command-kinds.r ℕ unwrap-command.Learnt

abbrev pub unwrap_command_given : UnwrapsCommand → UnwrapCommand.Given
unwrap_command_given c =
    UnwrapCommand.given c.args.0.now c.args.1.0.now c.args.1.1.0 c.args.1.1.1.0
    c.args.1.1.1.1.0
    c.args.1.1.1.1.1.0.now c.args.1.1.1.1.1.1.0.now

abbrev pub unwrap_command_left : UnwrapsCommand → UnwrapCommand.Left
unwrap_command_left c =
    UnwrapCommand.left c.result c.exit.0.now c.exit.1.0.now c.exit.1.1.1.1.1.1.0.now
    c.exit.1.1.1.1.1.1.1.0.now c.exit.1.1.1.1.1.1.1.1.0.now

abbrev pub WrapsResponse : Type 0
WrapsResponse = Ran 5 wrap-response-kinds.ps wrap-response-kinds.r ℕ wrap-response.Learnt

abbrev pub wrap_response_given : WrapsResponse → WrapResponse.Given
wrap_response_given c =
    WrapResponse.given c.args.0.now c.args.1.0.now c.args.1.1.0 c.args.1.1.1.0.now
    c.args.1.1.1.1.0.now

abbrev pub wrap_response_left : WrapsResponse → WrapResponse.Left
wrap_response_left c =
    WrapResponse.left c.result c.exit.0.now c.exit.1.0.now c.exit.1.1.1.1.0.now
    c.exit.1.1.1.1.1.0.now

abbrev pub UnwrapsResponse : Type 0
UnwrapsResponse = Ran 6 unwrap-response-kinds.ps unwrap-response-kinds.r ℕ unwrap-response.Learnt

abbrev pub unwrap_response_given : UnwrapsResponse → UnwrapResponse.Given
unwrap_response_given c =
    UnwrapResponse.given c.args.0.now c.args.1.0.now c.args.1.1.0 c.args.1.1.1.0.now
    c.args.1.1.1.1.0.now

abbrev pub unwrap_response_left : UnwrapsResponse → UnwrapResponse.Left
unwrap_response_left c =
    UnwrapResponse.left c.result c.exit.0.now c.exit.1.0.now c.exit.1.1.1.1.0.now
    c.exit.1.1.1.1.1.0.now c.exit.1.1.1.1.1.1.0.now

-- ---- events

-- a call, and the end that made it
pub data Event : Type 0 where
  wraps_command : Side → WrapsCommand → Event
  unwraps_command : Side → UnwrapsCommand → Event
  wraps_response : Side → WrapsResponse → Event
  unwraps_response : Side → UnwrapsResponse → Event
  closes : Side → Closes → Event

abbrev pub end : Event → Side
end (wraps_command side c) = side
end (unwraps_command side c) = side
end (wraps_response side c) = side
end (unwraps_response side c) = side
end (closes side c) = side

-- the session as it was handed in and as it was left, and the result
pub record Seen : Type 0 where
  pub held : Held
  pub held_after : Held
  pub number : ℕ

abbrev pub seen : Event → Seen
seen (wraps_command side c) =
    let l = wrap_command_left c in record { held = (wrap_command_given c).held; held_after = l.held; number = l.number }
seen (unwraps_command side c) =
    let l = unwrap_command_left c in record { held = (unwrap_command_given c).held; held_after = l.held; number = l.number }
seen (wraps_response side c) =
    let l = wrap_response_left c in record { held = (wrap_response_given c).held; held_after = l.held; number = l.number }
seen (unwraps_response side c) =
    let l = unwrap_response_left c in record { held = (unwrap_response_given c).held; held_after = l.held; number = l.number }
seen (closes side c) =
    let l = close_left c in record { held = (close_given c).held; held_after = l.held; number = l.number }

-- the call as the transcript has it: every argument but the session
abbrev pub call : Event → Call
call (wraps_command side c) = let g = wrap_command_given c in wrap_command side g.message (length g.field)
call (unwraps_command side c) =
    let g = unwrap_command_given c in unwrap_command side g.header g.field (length g.payload)
call (wraps_response side c) = let g = wrap_response_given c in wrap_response side g.message (length g.field)
call (unwraps_response side c) =
    let g = unwrap_response_given c in unwrap_response side g.sw g.field (length g.payload)
call (closes side c) = close side

-- what it gave, where it was not refused: as many bytes as it says, from the start of the buffer
abbrev pub given : (e : Event) → Gives (call e)
given (wraps_command side c) = let l = wrap_command_left c in take l.written l.field
given (unwraps_command side c) =
    let l = unwrap_command_left c in record { payload = take l.written l.payload; le = l.le }
given (wraps_response side c) = let l = wrap_response_left c in take l.written l.field
given (unwraps_response side c) =
    let l = unwrap_response_left c in record { header = status_of l.status; payload = take l.written l.payload }
given (closes side c) = tt

-- where it was, the number tells why; to the transcript every refusal is the same
abbrev pub answered : {A : Type 0} → ℕ → A → Answer A
answered zero a = gave a
answered (suc n) a = refused BadSession

abbrev pub answer : (e : Event) → Answer (Gives (call e))
answer e = answered (seen e).number (given e)
