-- What the tests of a fragment answer, as rule 7.1 has it: the first refusal, or the APDU of the part of the field that they give.
use Rattle.std.specs.Prelude.{Result, Ok, Err}
use Rattle.octets.specs.Bytes.{Bytes}
use Rattle.apdu.specs.declared.Header.{Header}
use Rattle.refusal.specs.declared.Refusal.{Refusal}
use Rattle.message_answer.specs.Answer.{Answer, refused, gave}
use Rattle.chain_command.specs.Apdu.{fragment_apdu}
use Rattle.chain_fragment_command.specs.declared.part.Part.{Part}

abbrev pub fragment_of : Header → Result Part Refusal → Answer Bytes
fragment_of h (Err r) = refused r
fragment_of h (Ok part) = gave (fragment_apdu part.last h part.bytes.now)
