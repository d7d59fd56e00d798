-- The card's unwrap with AES, by the function's own parameters.
use Rattle.std.specs.Prelude.{Bool, ℕ}
use Rattle.octets.specs.Bytes.{Bytes}
use Rattle.field_read.specs.Field.{read_field, covered_of}
use Rattle.field_read.specs.declared.Objects.{Objects}
use Rattle.apdu.specs.declared.Header.{Header}
use Rattle.session.specs.declared.Session.{Session}
use Rattle.message_answer.specs.Answer.{Answer, ◌and_then◌, Outcome, Out}
use Rattle.message_answer.specs.Message.{CommandGiven}
use Rattle.message_permission.specs.Permission.{command_wanted}
use Rattle.message_ciphers.specs.Aes.{aes_ciphers}
use Rattle.message_verify.specs.Reading.{objects_of}
use Rattle.message_verify.specs.VerifiedText.{Received, received_in}
use Rattle.message_protocol.specs.Command.{header_read, command_mac, open_command as opens, card_unwraps}

abbrev pub unwrap_command : Session → Header → Bytes → ℕ → Out CommandGiven
unwrap_command = card_unwraps aes_ciphers

-- its stages: behind the MAC's computation, behind the reading, and behind the tests
abbrev pub open_command : Session → Bool → Bytes → Received → ℕ → Answer (Outcome CommandGiven)
open_command = opens aes_ciphers

abbrev pub open_objects : Session → Header → Bytes → ℕ → Objects → Answer (Outcome CommandGiven)
open_objects s header field room o =
    open_command s o.second (command_mac aes_ciphers s (header_read header o) (covered_of field o)) (received_in field o) room

abbrev pub read_command : Session → Header → Bytes → ℕ → Answer (Outcome CommandGiven)
read_command s header field room =
    objects_of (read_field (command_wanted header.ins) field) and_then (λ o. open_objects s header field room o)

-- what stands in the caller's buffer
abbrev pub payload_of : CommandGiven → Bytes
payload_of g = g.payload
