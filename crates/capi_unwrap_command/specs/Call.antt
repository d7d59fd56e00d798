-- pivsm_unwrap_command of c/include/pivsm.h: the card's unwrap, with the session that the caller's bytes hold.
use Rattle.std.specs.Prelude.{Bool, ℕ, length}
use Rattle.octets.specs.Bytes.{Bytes}
use Rattle.apdu.specs.Apdu.{header}
use Rattle.apdu.specs.declared.Header.{Header}
use Rattle.message_answer.specs.Answer.{buffer}
use Rattle.message_answer.specs.Message.{CommandGiven}
use Rattle.message_ciphers.specs.Aes.{aes_ciphers}
use Rattle.message_protocol.specs.Command.{card_unwraps}
use Rattle.message_result.specs.Results.{command_answer}
use Rattle.capi_values.specs.Values.{command_values}
use Rattle.capi_session.specs.SessionBytes.{Served, Held, held_in, on_session}

-- what the call is given: the session's buffer and length, the header, the field, and the caller's buffer
pub record Given : Type 0 where
  pub held : Held
  pub header : Header
  pub field : Bytes
  pub payload : Bytes

abbrev pub given : Bytes → ℕ → ℕ → ℕ → ℕ → Bytes → Bytes → Given
given session len ins p1 p2 field payload =
    record { held = held_in session len; header = header ins p1 p2; field = field; payload = payload }

-- what it leaves: the result's number, the session's buffer and length, and the caller's buffer and numbers
pub record Left : Type 0 where
  pub number : ℕ
  pub held : Held
  pub payload : Bytes
  pub written : ℕ
  pub le : Bool

abbrev pub left : ℕ → Bytes → ℕ → Bytes → ℕ → Bool → Left
left number session len payload written le =
    record { number = number; held = held_in session len; payload = payload; written = written; le = le }

-- the call on the session, and what is held of the session after it
abbrev pub served : Given → Served Held CommandGiven
served g =
    on_session g.held
    (λ s. card_unwraps aes_ciphers s g.header g.field (length g.payload))

abbrev pub leaves : Bytes → Served Held CommandGiven → Left
leaves before x =
    let values = command_values (command_answer x.answer) in
    record {
      number = values.number;
      held = x.held;
      payload = buffer (λ m. m.payload) before x.answer;
      written = values.len;
      le = values.le;
    }

abbrev pub pivsm_unwrap_command : Given → Left
pivsm_unwrap_command g = leaves g.payload (served g)
