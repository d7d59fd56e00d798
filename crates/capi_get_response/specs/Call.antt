-- pivsm_get_response of c/include/pivsm.h: the APDU that asks for more of a response, in the caller's buffer.
use Rattle.std.specs.Prelude.{ℕ, leb, length}
use Rattle.octets.specs.Bytes.{Bytes}
use Rattle.refusal.specs.declared.Refusal.TheVariants.{BufferTooSmall}
use Rattle.message_answer.specs.Answer.{Answer, gave, require◌else◌⨾◌, buffer}
use Rattle.message_result.specs.Results.{wrap_answer}
use Rattle.chain_response.specs.Reassembly.{get_response}
use Rattle.capi_values.specs.Values.{wrap_values}

-- what the call is given: the number to ask for, and the caller's buffer
pub record Given : Type 0 where
  pub le : ℕ
  pub apdu : Bytes

abbrev pub given : ℕ → Bytes → Given
given le apdu = record { le = le; apdu = apdu }

-- what it leaves: the result's number, and what stands in the caller's buffer and number
pub record Left : Type 0 where
  pub number : ℕ
  pub apdu : Bytes
  pub written : ℕ

abbrev pub left : ℕ → Bytes → ℕ → Left
left number apdu written = record { number = number; apdu = apdu; written = written }

-- 6 where there is no room for its five bytes
unfoldable pub asked : Given → Answer Bytes
asked g = require leb 5 (length g.apdu) else BufferTooSmall 5 ⨾ gave (get_response g.le)

abbrev pub leaves : Bytes → Answer Bytes → Left
leaves before a =
    let values = wrap_values (wrap_answer a) in
    left values.number (buffer (λ bytes. bytes) before a) values.len

abbrev pub pivsm_get_response : Given → Left
pivsm_get_response g = leaves g.apdu (asked g)
