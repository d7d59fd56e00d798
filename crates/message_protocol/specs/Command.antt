-- Rules 2.5, 3.3, 6.1 and 6.3: the host wraps a command, and the card unwraps it.
use Rattle.std.specs.Prelude.{Bool, ℕ, ◌+◌, leb, ltb, length, take}
use Rattle.octets.specs.Bytes.{Bytes}
use Rattle.field_read.specs.Field.{read_field, covered_of}
use Rattle.field_read.specs.declared.Objects.{Objects}
use Rattle.field_write.specs.Objects.{command_objects, command_field}
use Rattle.field_size.specs.Lengths.{command_length}
use Rattle.message_mac.specs.MacInput.{command_mac_input}
use Rattle.apdu.specs.declared.Header.{Header}
use Rattle.refusal.specs.declared.Refusal.TheVariants.{SessionClosed, OutOfTurn, NotPermitted, TooLong, CommandLimit, BufferTooSmall}
use Rattle.session_turn.specs.Transitions.{command_taken}
use Rattle.session_suite.specs.StoredKeys.{key_in}
use Rattle.session_turn.specs.Turn.{is_turn}
use Rattle.session_rules.specs.Valid.{counts_as_open}
use Rattle.session.specs.declared.Side.TheVariants.{Host, Card}
use Rattle.session.specs.declared.Phase.TheVariants.{Ready}
use Rattle.session.specs.declared.Session.{Session}
use Rattle.message_ciphers.specs.Ciphers.{Ciphers}
use Rattle.message_answer.specs.Message.{CommandHeader, command_header, header_of, Command, max_command_data, max_command_field, command_limit, CommandGiven}
use Rattle.message_permission.specs.Permission.{ins_permitted, command_permitted, command_wanted}
use Rattle.message_counter.specs.Counter.{command_counter}
use Rattle.message_answer.specs.Answer.{Answer, gave, require◌else◌⨾◌, ◌and_then◌, Outcome, Out, concluded}
use Rattle.message_verify.specs.Reading.{objects_of}
use Rattle.message_verify.specs.VerifiedText.{Received, received_in, verified_text}

-- what the MAC of a command is computed over: its chaining value, its encoded header, and the field's bytes before '8E'
unfoldable pub command_input : Bytes → CommandHeader → Bytes → Bytes
command_input mcv h covered = command_mac_input mcv (header_of h) covered

-- the tests of a wrap, of a command with n bytes of data
unfoldable pub wrap_command_checks : Session → CommandHeader → ℕ → ℕ → Answer (Unit {0})
wrap_command_checks s h n room =
    require counts_as_open s else SessionClosed ⨾
    require is_turn Host Ready s.side s.phase else OutOfTurn ⨾
    require command_permitted h n else NotPermitted ⨾
    require leb n max_command_data else TooLong ⨾
    require ltb s.count command_limit else CommandLimit ⨾
    require leb (command_length n h.le) room else BufferTooSmall (command_length n h.le) ⨾
    gave tt

-- the tests of an unwrap, of a field of n bytes
unfoldable pub unwrap_command_checks : Session → ℕ → ℕ → Answer (Unit {0})
unwrap_command_checks s ins n =
    require counts_as_open s else SessionClosed ⨾
    require is_turn Card Ready s.side s.phase else OutOfTurn ⨾
    require ins_permitted ins else NotPermitted ⨾
    require leb n max_command_field else TooLong ⨾
    require ltb s.count command_limit else CommandLimit ⨾
    gave tt

-- header and Le of a command that is read
abbrev pub header_read : Header → Objects → CommandHeader
header_read header o = command_header header o.second

-- an accepted command: data and Le, and all 16 bytes of the MAC that was computed as the next chaining value
unfoldable pub command_accepted : Session → Bool → Bytes → Bytes → Outcome CommandGiven
command_accepted s le full d = record { gives = record { payload = d; le = le }; next = command_taken s full }

module _ (C : Ciphers) where
  -- the full MAC under the session's SK_MAC
  unfoldable pub command_mac : Session → CommandHeader → Bytes → Bytes
  command_mac s h covered = C.mac (key_in s.suite s.sk_mac) (command_input s.command_mcv h covered)

  -- a command is encrypted under the counter of its number, which is one more than those before it
  unfoldable pub command_ciphertext : Session → Bytes → Bytes
  command_ciphertext s d = C.encrypt (key_in s.suite s.sk_enc) (command_counter (s.count + 1)) d

  -- '8E' holds the first 8 bytes of the full MAC; all 16 become the next chaining value
  unfoldable pub command_wrapped : Session → CommandHeader → Bytes → Outcome Bytes
  command_wrapped s h c =
      let full = command_mac s h (command_objects c h.le) in
      record { gives = command_field c h.le (take 8 full); next = command_taken s full }

  unfoldable pub host_wraps : Session → Command → ℕ → Out Bytes
  host_wraps s m room =
      concluded s (
      wrap_command_checks s m.header (length m.payload) room and_then (λ checked.
      gave (command_wrapped s m.header (command_ciphertext s m.payload)))
      )

  -- the stages behind the reading, by Le, the full MAC that was computed, what was received, and the buffer's size
  unfoldable pub open_command : Session → Bool → Bytes → Received → ℕ → Answer (Outcome CommandGiven)
  open_command s le full r room =
      verified_text C (key_in s.suite s.sk_enc) (command_counter (s.count + 1)) full r room and_then (λ d.
      gave (command_accepted s le full d))

  unfoldable pub card_unwraps : Session → Header → Bytes → ℕ → Out CommandGiven
  card_unwraps s header field room =
      concluded s (
      unwrap_command_checks s header.ins (length field) and_then (λ checked.
      objects_of (read_field (command_wanted header.ins) field) and_then (λ o.
      open_command s o.second (command_mac s (header_read header o) (covered_of field o)) (received_in field o) room))
      )
