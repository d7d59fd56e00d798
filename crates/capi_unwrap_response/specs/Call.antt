-- pivsm_unwrap_response of c/include/pivsm.h: the host's unwrap, with the session that the caller's bytes hold.
use Rattle.std.specs.Prelude.{ℕ, length}
use Rattle.octets.specs.Bytes.{Bytes}
use Rattle.apdu.specs.Apdu.{status_of}
use Rattle.apdu.specs.declared.StatusWord.{StatusWord}
use Rattle.message_answer.specs.Answer.{buffer}
use Rattle.message_answer.specs.Message.{Response}
use Rattle.message_ciphers.specs.Aes.{aes_ciphers}
use Rattle.message_protocol.specs.Response.{host_unwraps}
use Rattle.message_result.specs.Results.{response_answer}
use Rattle.capi_values.specs.Values.{response_values}
use Rattle.capi_session.specs.SessionBytes.{Served, Held, held_in, on_session}

-- what the call is given: the session's buffer and length, the status word, the field, and the caller's buffer
pub record Given : Type 0 where
  pub held : Held
  pub sw : StatusWord
  pub field : Bytes
  pub payload : Bytes

-- the status word is SW1 * 256 + SW2
abbrev pub given : Bytes → ℕ → ℕ → Bytes → Bytes → Given
given session len sw field payload =
    record { held = held_in session len; sw = status_of sw; field = field; payload = payload }

-- what it leaves: the result's number, the session's buffer and length, and the caller's buffer and numbers
pub record Left : Type 0 where
  pub number : ℕ
  pub held : Held
  pub payload : Bytes
  pub written : ℕ
  pub status : ℕ

abbrev pub left : ℕ → Bytes → ℕ → Bytes → ℕ → ℕ → Left
left number session len payload written status =
    record { number = number; held = held_in session len; payload = payload; written = written; status = status }

-- the call on the session, and what is held of the session after it
abbrev pub served : Given → Served Held Response
served g =
    on_session g.held (λ s. host_unwraps aes_ciphers s g.sw g.field (length g.payload))

abbrev pub leaves : Bytes → Served Held Response → Left
leaves before x =
    let values = response_values (response_answer x.answer) in
    record {
      number = values.number;
      held = x.held;
      payload = buffer (λ m. m.payload) before x.answer;
      written = values.len;
      status = values.status;
    }

abbrev pub pivsm_unwrap_response : Given → Left
pivsm_unwrap_response g = leaves g.payload (served g)
