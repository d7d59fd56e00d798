-- pivsm_fragment_command of c/include/pivsm.h: one fragment of a command field, as an APDU in the caller's buffer.
use Rattle.std.specs.Prelude.{ℕ, length}
use Rattle.octets.specs.Bytes.{Bytes}
use Rattle.message_answer.specs.Answer.{Answer, buffer}
use Rattle.apdu.specs.Apdu.{header}
use Rattle.apdu.specs.declared.Header.{Header}
use Rattle.chain_command.specs.Fragment.{fragment_command, fragment_answer}
use Rattle.capi_values.specs.ChainingValues.{fragment_values}

-- what the call is given: the command's header, the field, the fragment's size and number, and the caller's buffer
pub record Given : Type 0 where
  pub header : Header
  pub field : Bytes
  pub size : ℕ
  pub number : ℕ
  pub apdu : Bytes

abbrev pub given : ℕ → ℕ → ℕ → Bytes → ℕ → ℕ → Bytes → Given
given ins p1 p2 field size number apdu =
    record { header = header ins p1 p2; field = field; size = size; number = number; apdu = apdu }

-- what it leaves: the result's number, and what stands in the caller's buffer and number
pub record Left : Type 0 where
  pub number : ℕ
  pub apdu : Bytes
  pub written : ℕ

abbrev pub left : ℕ → Bytes → ℕ → Left
left number apdu written = record { number = number; apdu = apdu; written = written }

abbrev pub fragmented : Given → Answer Bytes
fragmented g = fragment_command g.header g.field g.size g.number (length g.apdu)

abbrev pub leaves : Bytes → Answer Bytes → Left
leaves before a =
    let values = fragment_values (fragment_answer a) in
    left values.number (buffer (λ bytes. bytes) before a) values.len

abbrev pub pivsm_fragment_command : Given → Left
pivsm_fragment_command g = leaves g.apdu (fragmented g)
