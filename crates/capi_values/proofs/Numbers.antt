-- The number that C gets is the answer's own.
use mathlib.Core.Path.{◌≡◌, refl}
use Rattle.octets.specs.Bytes.{Bytes}
use Rattle.message_answer.specs.Message.{Response, CommandGiven}
use Rattle.message_answer.specs.Answer.{Answer, refused, gave}
use Rattle.message_result.specs.Results.{wrap_answer, command_answer, response_answer}
use Rattle.capi_values.specs.Values.{number_of, wrap_values, command_values, response_values}

pub wrap_number : (a : Answer Bytes) → (wrap_values (wrap_answer a)).number ≡ number_of a
wrap_number (refused r) = refl
wrap_number (gave f) = refl

pub command_number : (a : Answer CommandGiven) → (command_values (command_answer a)).number ≡ number_of a
command_number (refused r) = refl
command_number (gave g) = refl

pub response_number : (a : Answer Response) → (response_values (response_answer a)).number ≡ number_of a
response_number (refused r) = refl
response_number (gave m) = refl
