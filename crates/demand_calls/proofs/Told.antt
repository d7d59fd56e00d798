-- What a call that ran gave and left is what the definition says of its arguments.
-- Assumes nothing.
use mathlib.Core.Path.{◌≡◌, refl, sym, ap}
use Prim.Native.Nat.{ℕ}
use lib.ListN.{length, take, drop}
use lib.Seq.{take-append_seam}
use Rattle.octets.specs.Bytes.{Bytes}
use Rattle.octets.specs.Write.{over}
use Rattle.message_ciphers.specs.Aes.{aes_ciphers}
use Rattle.message_answer.specs.Message.{Response, CommandGiven}
use Rattle.message_answer.specs.Answer.{Answer, refused, gave, Out, buffer}
use Rattle.message_protocol.specs.Transcript.{Gives, does}
use Rattle.message_protocol.specs.RefusalKeeps.{writes}
use Rattle.message_result.specs.Results.{wrap_answer, wrap_result, command_answer, command_result, response_answer, response_result}
use Rattle.message_result.specs.declared.AcceptedCommand.{AcceptedCommand}
use Rattle.message_result.specs.declared.AcceptedResponse.{AcceptedResponse}
use Rattle.refusal.specs.declared.Answered.{Answered}
use Rattle.session.specs.declared.Session.{Session}
use Rattle.demand_calls.specs.Calls.{Event, wraps_command, unwraps_command, wraps_response, unwraps_response, closes, session, buffer_before, buffer_after, call, next, wrap_gave, command_gave, response_gave, answer}

-- what was written first is at the start
start : (xs ys : Bytes) → take (length ys) (over xs ys) ≡ ys
unfolding over
start xs ys = take-append_seam ys (drop (length ys) xs)

-- ---- the answer, from the result and the buffer

wrap_back : (a : Answer Bytes) (xs : Bytes) → wrap_gave (wrap_answer a) (buffer (λ (f : Bytes). f) xs a) ≡ a
unfolding buffer
wrap_back (refused r) xs = refl
wrap_back (gave f) xs = ap gave (start xs f)

command_back : (a : Answer CommandGiven) (xs : Bytes) → command_gave (command_answer a) (buffer (λ (g : CommandGiven). g.payload) xs a) ≡ a
unfolding buffer
command_back (refused r) xs = refl
command_back (gave g) xs = λ i. gave (record { payload = start xs g.payload i; le = g.le })

response_back : (a : Answer Response) (xs : Bytes) → response_gave (response_answer a) (buffer (λ (m : Response). m.payload) xs a) ≡ a
unfolding buffer
response_back (refused r) xs = refl
response_back (gave m) xs = λ i. gave (record { header = m.header; payload = start xs m.payload i })

-- ---- the call

wrap_told : (o : Out Bytes) (result : Answered ℕ Session) (xs out : Bytes) → result ≡ wrap_result o → out ≡ buffer (λ (f : Bytes). f) xs o.answer
    → o ≡ record { answer = wrap_gave result.answer out; next = result.next }
wrap_told o result xs out e f = rw (e, f) (λ i. record { answer = sym (wrap_back o.answer xs) i; next = o.next })

command_told : (o : Out CommandGiven) (result : Answered AcceptedCommand Session) (xs out : Bytes) → result ≡ command_result o → out ≡ buffer (λ (g : CommandGiven). g.payload) xs o.answer
    → o ≡ record { answer = command_gave result.answer out; next = result.next }
command_told o result xs out e f = rw (e, f) (λ i. record { answer = sym (command_back o.answer xs) i; next = o.next })

response_told : (o : Out Response) (result : Answered AcceptedResponse Session) (xs out : Bytes) → result ≡ response_result o → out ≡ buffer (λ (m : Response). m.payload) xs o.answer
    → o ≡ record { answer = response_gave result.answer out; next = result.next }
response_told o result xs out e f = rw (e, f) (λ i. record { answer = sym (response_back o.answer xs) i; next = o.next })

abbrev pub outcome : (e : Event) → Out (Gives (call e))
outcome e = record { answer = answer e; next = next e }

pub told : (e : Event) → does aes_ciphers (session e) (call e) ≡ outcome e
unfolding does
told (wraps_command side c) = wrap_told _ c.result (buffer_before (wraps_command side c)) (buffer_after (wraps_command side c)) c.met.0 c.met.1.0
told (unwraps_command side c) = command_told _ c.result (buffer_before (unwraps_command side c)) (buffer_after (unwraps_command side c)) c.met.0 c.met.1
told (wraps_response side c) = wrap_told _ c.result (buffer_before (wraps_response side c)) (buffer_after (wraps_response side c)) c.met.0 c.met.1.0
told (unwraps_response side c) = response_told _ c.result (buffer_before (unwraps_response side c)) (buffer_after (unwraps_response side c)) c.met.0 c.met.1
told (closes side c) = λ i. record { answer = gave tt; next = sym c.met i }

-- ---- the buffer

pub output_told : (e : Event) → buffer_after e ≡ buffer (writes (call e)) (buffer_before e) (does aes_ciphers (session e) (call e)).answer
unfolding does buffer over
output_told (wraps_command side c) = c.met.1.0
output_told (unwraps_command side c) = c.met.1
output_told (wraps_response side c) = c.met.1.0
output_told (unwraps_response side c) = c.met.1
output_told (closes side c) = refl
