-- pivsm_fragment_response of c/include/pivsm.h: one fragment of a response field, in the caller's buffer.
use Rattle.std.specs.Prelude.{ℕ, length}
use Rattle.octets.specs.Bytes.{Bytes}
use Rattle.apdu.specs.Apdu.{status_of}
use Rattle.apdu.specs.declared.StatusWord.{StatusWord}
use Rattle.message_answer.specs.Answer.{Answer, buffer}
use Rattle.chain_response.specs.Fragment.{next, fragment_response, fragment_answer}
use Rattle.capi_values.specs.ChainingValues.{response_fragment_values}

-- what the call is given: the status word, the field, the index and the number asked for, and the caller's buffer
pub record Given : Type 0 where
  pub status : StatusWord
  pub field : Bytes
  pub at : ℕ
  pub le : ℕ
  pub apdu : Bytes

-- the status word is SW1 * 256 + SW2
abbrev pub given : ℕ → Bytes → ℕ → ℕ → Bytes → Given
given sw field at le apdu = record { status = status_of sw; field = field; at = at; le = le; apdu = apdu }

-- what it leaves: the result's number, and what stands in the caller's buffer and numbers
pub record Left : Type 0 where
  pub number : ℕ
  pub apdu : Bytes
  pub written : ℕ
  pub next : ℕ

abbrev pub left : ℕ → Bytes → ℕ → ℕ → Left
left number apdu written next = record { number = number; apdu = apdu; written = written; next = next }

abbrev pub fragmented : Given → Answer Bytes
fragmented g = fragment_response g.status g.field g.at g.le (length g.apdu)

abbrev pub leaves : Bytes → ℕ → Answer Bytes → Left
leaves before behind a =
    let values = response_fragment_values (fragment_answer behind a) in
    left values.number (buffer (λ bytes. bytes) before a) values.len values.next

abbrev pub pivsm_fragment_response : Given → Left
pivsm_fragment_response g = leaves g.apdu (next g.field g.at g.le) (fragmented g)
