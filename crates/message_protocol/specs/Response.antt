-- Rules 2.5, 3.3, 6.2 and 6.3: the card wraps a response, and the host unwraps it.
use Rattle.std.specs.Prelude.{ℕ, leb, ltb, length, take}
use Rattle.octets.specs.Bytes.{Bytes}
use Rattle.field_read.specs.Field.{read_field, covered_of}
use Rattle.field_write.specs.Objects.{response_objects, response_field}
use Rattle.field_size.specs.Lengths.{response_length}
use Rattle.message_mac.specs.MacInput.{response_mac_input}
use Rattle.refusal.specs.declared.Refusal.TheVariants.{SessionClosed, OutOfTurn, NotPermitted, TooLong, BufferTooSmall, Unprotected}
use Rattle.session_turn.specs.Transitions.{response_taken}
use Rattle.session_suite.specs.StoredKeys.{key_in}
use Rattle.session_turn.specs.Turn.{is_turn}
use Rattle.session_rules.specs.Valid.{counts_as_open}
use Rattle.session.specs.declared.Side.TheVariants.{Host, Card}
use Rattle.session.specs.declared.Phase.TheVariants.{Pending}
use Rattle.session.specs.declared.Session.{Session}
use Rattle.message_ciphers.specs.Ciphers.{Ciphers}
use Rattle.message_answer.specs.Message.{StatusWord, Response, max_response_data, max_response_field}
use Rattle.message_permission.specs.Permission.{status_permitted, response_wanted}
use Rattle.message_counter.specs.Counter.{response_counter}
use Rattle.message_answer.specs.Answer.{Answer, gave, require◌else◌⨾◌, ◌and_then◌, Outcome, Out, concluded}
use Rattle.message_verify.specs.Reading.{objects_of}
use Rattle.message_verify.specs.VerifiedText.{Received, received_in, verified_text}

-- the tests of a wrap, of a response with n bytes of data
unfoldable pub wrap_response_checks : Session → StatusWord → ℕ → ℕ → Answer (Unit {0})
wrap_response_checks s sw n room =
    require counts_as_open s else SessionClosed ⨾
    require is_turn Card Pending s.side s.phase else OutOfTurn ⨾
    require status_permitted sw else NotPermitted ⨾
    require leb n max_response_data else TooLong ⨾
    require leb (response_length n) room else BufferTooSmall (response_length n) ⨾
    gave tt

-- the tests of an unwrap, of a field of n bytes
unfoldable pub unwrap_response_checks : Session → StatusWord → ℕ → Answer (Unit {0})
unwrap_response_checks s sw n =
    require counts_as_open s else SessionClosed ⨾
    require is_turn Host Pending s.side s.phase else OutOfTurn ⨾
    require ltb 0 n else Unprotected sw ⨾
    require leb n max_response_field else TooLong ⨾
    gave tt

-- the host takes all 16 bytes of the full MAC as the next chaining value
unfoldable pub response_accepted : Session → StatusWord → Bytes → Bytes → Outcome Response
response_accepted s sw full d = record { gives = record { header = sw; payload = d }; next = response_taken s full }

module _ (C : Ciphers) where
  -- the full MAC under the session's SK_RMAC, over its chaining value and the field's bytes before '8E'
  unfoldable pub response_mac : Session → Bytes → Bytes
  response_mac s covered = C.mac (key_in s.suite s.sk_rmac) (response_mac_input s.response_mcv covered)

  -- a response is encrypted under its command's number
  unfoldable pub response_ciphertext : Session → Bytes → Bytes
  response_ciphertext s d = C.encrypt (key_in s.suite s.sk_enc) (response_counter s.count) d

  unfoldable pub response_wrapped : Session → StatusWord → Bytes → Outcome Bytes
  response_wrapped s sw c =
      let full = response_mac s (response_objects c sw.sw1 sw.sw2) in
      record { gives = response_field c sw.sw1 sw.sw2 (take 8 full); next = response_taken s full }

  unfoldable pub card_wraps : Session → Response → ℕ → Out Bytes
  card_wraps s m room =
      concluded s (
      wrap_response_checks s m.header (length m.payload) room and_then (λ checked.
      gave (response_wrapped s m.header (response_ciphertext s m.payload)))
      )

  -- the stages behind the reading, by the status word, the full MAC that was computed, what was received, and the buffer's size
  unfoldable pub open_response : Session → StatusWord → Bytes → Received → ℕ → Answer (Outcome Response)
  open_response s sw full r room =
      verified_text C (key_in s.suite s.sk_enc) (response_counter s.count) full r room and_then (λ d.
      gave (response_accepted s sw full d))

  unfoldable pub host_unwraps : Session → StatusWord → Bytes → ℕ → Out Response
  host_unwraps s sw field room =
      concluded s (
      unwrap_response_checks s sw (length field) and_then (λ checked.
      objects_of (read_field (response_wanted sw) field) and_then (λ o.
      open_response s sw (response_mac s (covered_of field o)) (received_in field o) room))
      )
