-- pivsm_wrap_response of c/include/pivsm.h: the card's wrap, with the session that the caller's bytes hold.
use Rattle.std.specs.Prelude.{ℕ, length}
use Rattle.octets.specs.Bytes.{Bytes}
use Rattle.apdu.specs.Apdu.{status_of}
use Rattle.message_answer.specs.Answer.{buffer}
use Rattle.message_answer.specs.Message.{Response}
use Rattle.message_ciphers.specs.Aes.{aes_ciphers}
use Rattle.message_protocol.specs.Response.{card_wraps}
use Rattle.message_result.specs.Results.{wrap_answer}
use Rattle.capi_values.specs.Values.{wrap_values}
use Rattle.capi_session.specs.SessionBytes.{Served, Held, held_in, on_session}

-- what the call is given: the session's buffer and length, the response with its data, and the caller's buffer
pub record Given : Type 0 where
  pub held : Held
  pub message : Response
  pub field : Bytes

-- the status word is SW1 * 256 + SW2
abbrev pub given : Bytes → ℕ → ℕ → Bytes → Bytes → Given
given session len sw payload field =
    let message : Response = record { header = status_of sw; payload = payload } in
    record { held = held_in session len; message = message; field = field }

-- what it leaves: the result's number, the session's buffer and length, and the caller's buffer and numbers
pub record Left : Type 0 where
  pub number : ℕ
  pub held : Held
  pub field : Bytes
  pub written : ℕ

abbrev pub left : ℕ → Bytes → ℕ → Bytes → ℕ → Left
left number session len field written =
    record { number = number; held = held_in session len; field = field; written = written }

-- the call on the session, and what is held of the session after it
abbrev pub served : Given → Served Held Bytes
served g = on_session g.held (λ s. card_wraps aes_ciphers s g.message (length g.field))

abbrev pub leaves : Bytes → Served Held Bytes → Left
leaves before x =
    let values = wrap_values (wrap_answer x.answer) in
    record {
      number = values.number;
      held = x.held;
      field = buffer (λ (bytes : Bytes). bytes) before x.answer;
      written = values.len;
    }

abbrev pub pivsm_wrap_response : Given → Left
pivsm_wrap_response g = leaves g.field (served g)
