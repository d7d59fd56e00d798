-- The calls that ran, of the functions that open, wrap, unwrap and close.
use Rattle.std.specs.Prelude.{[], ℕ, length, take, Result, Ok, Err}
use Rattle.session.proofs.Session.open_host.Reads as open-host
use Rattle.session.proofs.Session.open_host.Kinds as open-host-kinds
use Rattle.session.proofs.Session.open_card.Reads as open-card
use Rattle.session.proofs.Session.open_card.Kinds as open-card-kinds
use Rattle.session.proofs.Session.close.Reads as close-session
use Rattle.session.proofs.Session.close.Kinds as close-session-kinds
use Rattle.message_wrap_command.proofs.wrap_command.Reads as wrap-command
use Rattle.message_wrap_command.proofs.wrap_command.Kinds as wrap-command-kinds
use Rattle.message_unwrap_command.proofs.unwrap_command.Reads as unwrap-command
use Rattle.message_unwrap_command.proofs.unwrap_command.Kinds as unwrap-command-kinds
use Rattle.message_wrap_response.proofs.wrap_response.Reads as wrap-response
use Rattle.message_wrap_response.proofs.wrap_response.Kinds as wrap-response-kinds
use Rattle.message_unwrap_response.proofs.unwrap_response.Reads as unwrap-response
use Rattle.message_unwrap_response.proofs.unwrap_response.Kinds as unwrap-response-kinds
use Rattle.demand_calls.specs.Ran.{Ran}
use Rattle.octets.specs.Bytes.{Bytes}
use Rattle.session_suite.specs.StoredKeys.{Keys, keys}
use Rattle.session.specs.declared.Side.{Side}
use Rattle.session.specs.declared.Session.{Session}
use Rattle.session.specs.Opening.{Opened}
use Rattle.refusal.specs.declared.Refusal.{Refusal}
use Rattle.refusal.specs.declared.Answered.{Answered}
use Rattle.message_answer.specs.Message.{Command, Response, command_header, CommandGiven}
use Rattle.message_answer.specs.Answer.{Answer, refused, gave}
use Rattle.message_protocol.specs.Transcript.{Call, wrap_command, unwrap_command, wrap_response, unwrap_response, close, Gives}
use Rattle.capi_values.specs.Values.{given, wrap_values, command_values, response_values}
use Rattle.capi_values.specs.declared.Values.{Values}
use Rattle.message_result.specs.declared.AcceptedCommand.{AcceptedCommand}
use Rattle.message_result.specs.declared.AcceptedResponse.{AcceptedResponse}

-- ---- openings

-- Session::open_host(suite, sk_enc, sk_mac, sk_rmac)
abbrev pub OpensHost : Type 0
OpensHost = Ran 3 open-host-kinds.ps open-host-kinds.r Opened open-host.Learnt

abbrev pub host_keys : OpensHost → Keys
host_keys o = keys o.args.1.0.now o.args.1.1.0.now o.args.1.1.1.0.now

-- Session::open_card(suite, sk_enc, sk_mac, sk_rmac)
abbrev pub OpensCard : Type 0
OpensCard = Ran 3 open-card-kinds.ps open-card-kinds.r Opened open-card.Learnt

abbrev pub card_keys : OpensCard → Keys
card_keys o = keys o.args.1.0.now o.args.1.1.0.now o.args.1.1.1.0.now

-- ---- the five calls

-- wrap_command(session, header, le, data, out)
abbrev pub WrapsCommand : Type 0
WrapsCommand = Ran 2 wrap-command-kinds.ps wrap-command-kinds.r (Answered ℕ Session) wrap-command.Learnt

-- unwrap_command(session, header, field, out)
abbrev pub UnwrapsCommand : Type 0
UnwrapsCommand = Ran 2 unwrap-command-kinds.ps unwrap-command-kinds.r (Answered AcceptedCommand Session) unwrap-command.Learnt

-- wrap_response(session, status, data, out)
abbrev pub WrapsResponse : Type 0
WrapsResponse = Ran 2 wrap-response-kinds.ps wrap-response-kinds.r (Answered ℕ Session) wrap-response.Learnt

-- unwrap_response(session, status, field, out)
abbrev pub UnwrapsResponse : Type 0
UnwrapsResponse = Ran 2 unwrap-response-kinds.ps unwrap-response-kinds.r (Answered AcceptedResponse Session) unwrap-response.Learnt

-- session.close()
abbrev pub Closes : Type 0
Closes = Ran 0 close-session-kinds.ps close-session-kinds.r Session close-session.Learnt

-- a call, and the end that made it
pub data Event : Type 0 where
  wraps_command : Side → WrapsCommand → Event
  unwraps_command : Side → UnwrapsCommand → Event
  wraps_response : Side → WrapsResponse → Event
  unwraps_response : Side → UnwrapsResponse → Event
  closes : Side → Closes → Event

abbrev pub end : Event → Side
end (wraps_command side c) = side
end (unwraps_command side c) = side
end (wraps_response side c) = side
end (unwraps_response side c) = side
end (closes side c) = side

-- ---- its arguments

abbrev pub session : Event → Session
session (wraps_command side c) = c.args.0
session (unwraps_command side c) = c.args.0
session (wraps_response side c) = c.args.0
session (unwraps_response side c) = c.args.0
session (closes side c) = c.args.0

-- the message handed to a wrap
abbrev pub command : WrapsCommand → Command
command c = record { header = command_header c.args.1.0 c.args.1.1.0; payload = c.args.1.1.1.0.now }

abbrev pub response : WrapsResponse → Response
response c = record { header = c.args.1.0; payload = c.args.1.1.0.now }

-- the caller's buffer, before and after
abbrev pub buffer_before : Event → Bytes
buffer_before (wraps_command side c) = c.args.1.1.1.1.0.now
buffer_before (unwraps_command side c) = c.args.1.1.1.0.now
buffer_before (wraps_response side c) = c.args.1.1.1.0.now
buffer_before (unwraps_response side c) = c.args.1.1.1.0.now
buffer_before (closes side c) = []

abbrev pub buffer_after : Event → Bytes
buffer_after (wraps_command side c) = c.exit.1.1.1.1.0.now
buffer_after (unwraps_command side c) = c.exit.1.1.1.0.now
buffer_after (wraps_response side c) = c.exit.1.1.1.0.now
buffer_after (unwraps_response side c) = c.exit.1.1.1.0.now
buffer_after (closes side c) = []

-- the call as the transcript has it: every argument but the session
abbrev pub call : Event → Call
call (wraps_command side c) = wrap_command side (command c) (length (buffer_before (wraps_command side c)))
call (unwraps_command side c) =
    unwrap_command side c.args.1.0 c.args.1.1.0.now (length (buffer_before (unwraps_command side c)))
call (wraps_response side c) = wrap_response side (response c) (length (buffer_before (wraps_response side c)))
call (unwraps_response side c) =
    unwrap_response side c.args.1.0 c.args.1.1.0.now (length (buffer_before (unwraps_response side c)))
call (closes side c) = close side

-- ---- its result

-- the session that it left
abbrev pub next : Event → Session
next (wraps_command side c) = c.result.next
next (unwraps_command side c) = c.result.next
next (wraps_response side c) = c.result.next
next (unwraps_response side c) = c.result.next
next (closes side c) = c.result

-- what it gave: the number of bytes that it names, from the start of the buffer
abbrev pub wrap_gave : Result ℕ Refusal → Bytes → Answer Bytes
wrap_gave (Ok n) out = gave (take n out)
wrap_gave (Err r) out = refused r

abbrev pub command_gave : Result AcceptedCommand Refusal → Bytes → Answer CommandGiven
command_gave (Ok a) out = gave (record { payload = take a.len out; le = a.le })
command_gave (Err r) out = refused r

abbrev pub response_gave : Result AcceptedResponse Refusal → Bytes → Answer Response
response_gave (Ok a) out = gave (record { header = a.status; payload = take a.len out })
response_gave (Err r) out = refused r

-- its number and values, as rules 2.1 and 2.2 have them; a closing always succeeds
abbrev pub values : Event → Values
values (wraps_command side c) = wrap_values c.result.answer
values (unwraps_command side c) = command_values c.result.answer
values (wraps_response side c) = wrap_values c.result.answer
values (unwraps_response side c) = response_values c.result.answer
values (closes side c) = given 0 0 0

abbrev pub answer : (e : Event) → Answer (Gives (call e))
answer (wraps_command side c) = wrap_gave c.result.answer (buffer_after (wraps_command side c))
answer (unwraps_command side c) = command_gave c.result.answer (buffer_after (unwraps_command side c))
answer (wraps_response side c) = wrap_gave c.result.answer (buffer_after (wraps_response side c))
answer (unwraps_response side c) = response_gave c.result.answer (buffer_after (unwraps_response side c))
answer (closes side c) = gave tt
