-- The host's unwrap with AES, by the function's own parameters.
use Rattle.std.specs.Prelude.{ℕ}
use Rattle.octets.specs.Bytes.{Bytes}
use Rattle.field_read.specs.Field.{read_field, covered_of}
use Rattle.field_read.specs.declared.Objects.{Objects}
use Rattle.apdu.specs.declared.StatusWord.{StatusWord}
use Rattle.session.specs.declared.Session.{Session}
use Rattle.message_answer.specs.Answer.{Answer, ◌and_then◌, Outcome, Out}
use Rattle.message_answer.specs.Message.{Response}
use Rattle.message_permission.specs.Permission.{response_wanted}
use Rattle.message_ciphers.specs.Aes.{aes_ciphers}
use Rattle.message_verify.specs.Reading.{objects_of}
use Rattle.message_verify.specs.VerifiedText.{Received, received_in}
use Rattle.message_protocol.specs.Response.{response_mac, open_response as opens, host_unwraps}

abbrev pub unwrap_response : Session → StatusWord → Bytes → ℕ → Out Response
unwrap_response = host_unwraps aes_ciphers

-- its stages: behind the MAC's computation, behind the reading, and behind the tests
abbrev pub open_response : Session → StatusWord → Bytes → Received → ℕ → Answer (Outcome Response)
open_response = opens aes_ciphers

abbrev pub open_objects : Session → StatusWord → Bytes → ℕ → Objects → Answer (Outcome Response)
open_objects s status field room o =
    open_response s status (response_mac aes_ciphers s (covered_of field o)) (received_in field o) room

abbrev pub read_response : Session → StatusWord → Bytes → ℕ → Answer (Outcome Response)
read_response s status field room =
    objects_of (read_field (response_wanted status) field) and_then (λ o. open_objects s status field room o)

-- what stands in the caller's buffer
abbrev pub payload_of : Response → Bytes
payload_of m = m.payload
