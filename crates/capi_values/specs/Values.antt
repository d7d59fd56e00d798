-- Rules 2.1 and 2.2: the number and the values of each answer as the calls give it; 0 is the number of one that is not a refusal.
use Rattle.std.specs.Prelude.{false, ℕ, Result, Ok, Err}
use Rattle.apdu.specs.Apdu.{header, status_word}
use Rattle.refusal.specs.Refusal.{number, size, status}
use Rattle.refusal.specs.declared.Refusal.{Refusal}
use Rattle.message_answer.specs.Answer.{Answer, refused, gave}
use Rattle.message_result.specs.declared.AcceptedCommand.{AcceptedCommand}
use Rattle.message_result.specs.declared.AcceptedResponse.{AcceptedResponse}
use Rattle.capi_values.specs.declared.Values.{Values}

-- the number of an answer
abbrev pub number_of : {A : Type 0} → Answer A → ℕ
number_of (refused r) = number r
number_of (gave a) = 0

-- no Le, no header and no next index
abbrev pub given : ℕ → ℕ → ℕ → Values
given n len sw = record { number = n; len = len; status = sw; le = false; header = header 0 0 0; next = 0 }

-- length 0, but for the length needed at 6; the status, unverified, at 13
abbrev pub refusal_values : Refusal → Values
refusal_values r = given (number r) (size r) (status r)

-- of an answer: those of what it gives, or of its refusal
abbrev pub answer_values : {A : Type 0} → (A → Values) → Result A Refusal → Values
answer_values values (Ok a) = values a
answer_values values (Err r) = refusal_values r

abbrev pub length_values : ℕ → Values
length_values n = given 0 n 0

-- of a wrap, and of the fragmenting of a command
abbrev pub wrap_values : Result ℕ Refusal → Values
wrap_values = answer_values length_values

abbrev pub accepted_command_values : AcceptedCommand → Values
accepted_command_values a = record { number = 0; len = a.len; status = 0; le = a.le; header = header 0 0 0; next = 0 }

abbrev pub command_values : Result AcceptedCommand Refusal → Values
command_values = answer_values accepted_command_values

abbrev pub accepted_response_values : AcceptedResponse → Values
accepted_response_values a = given 0 a.len (status_word a.status)

abbrev pub response_values : Result AcceptedResponse Refusal → Values
response_values = answer_values accepted_response_values
