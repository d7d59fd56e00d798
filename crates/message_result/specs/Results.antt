-- The answers of the definitions as the functions give them: what a call writes stands in the caller's buffer, so the result has its length.
-- Assumes nothing.
use Rattle.std.specs.Prelude.{ℕ, length, Result, Ok, Err}
use Rattle.octets.specs.Bytes.{Bytes}
use Rattle.refusal.specs.declared.Answered.{Answered}
use Rattle.refusal.specs.declared.Refusal.{Refusal}
use Rattle.session.specs.declared.Session.{Session}
use Rattle.message_answer.specs.Message.{Response, CommandGiven}
use Rattle.message_answer.specs.Answer.{Answer, refused, gave, Out, after_refusal}
use Rattle.message_result.specs.declared.AcceptedCommand.{AcceptedCommand}
use Rattle.message_result.specs.declared.AcceptedResponse.{AcceptedResponse}

-- the tests of a call
abbrev pub Checked : Type 0
Checked = Result (Unit {0}) Refusal

abbrev pub checked : Answer (Unit {0}) → Checked
checked (refused r) = Err r
checked (gave u) = Ok tt

-- a call that is refused, whatever it would have given
abbrev pub refused_result : {T : Type 0} → Session → Refusal → Answered T Session
refused_result s r = record { answer = Err r; next = after_refusal s r }

-- a wrap
abbrev pub wrap_answer : Answer Bytes → Result ℕ Refusal
wrap_answer (refused r) = Err r
wrap_answer (gave field) = Ok (length field)

abbrev pub wrap_result : Out Bytes → Answered ℕ Session
wrap_result out = record { answer = wrap_answer out.answer; next = out.next }

-- the card's unwrap
abbrev pub command_answer : Answer CommandGiven → Result AcceptedCommand Refusal
command_answer (refused r) = Err r
command_answer (gave g) = Ok (record { len = length g.payload; le = g.le })

abbrev pub command_result : Out CommandGiven → Answered AcceptedCommand Session
command_result out = record { answer = command_answer out.answer; next = out.next }

-- the host's unwrap
abbrev pub response_answer : Answer Response → Result AcceptedResponse Refusal
response_answer (refused r) = Err r
response_answer (gave m) = Ok (record { len = length m.payload; status = m.header })

abbrev pub response_result : Out Response → Answered AcceptedResponse Session
response_result out = record { answer = response_answer out.answer; next = out.next }
