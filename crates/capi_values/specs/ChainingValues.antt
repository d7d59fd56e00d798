-- Rules 2.1 and 2.2: the number and the values of each answer of fragmenting and reassembling.
use Rattle.std.specs.Prelude.{ℕ, false, Result}
use Rattle.apdu.specs.Apdu.{header, status, status_word}
use Rattle.refusal.specs.declared.Refusal.{Refusal}
use Rattle.chain_command.specs.declared.CommandPart.{CommandPart}
use Rattle.chain_command.specs.declared.CommandPart.TheVariants.{More, Whole}
use Rattle.message_answer.specs.Message.{more_sw1}
use Rattle.chain_response.specs.declared.ResponseFragment.{ResponseFragment}
use Rattle.chain_response.specs.declared.ResponsePart.{ResponsePart}
use Rattle.chain_response.specs.declared.ResponsePart.TheVariants.{More as ResponseMore, Whole as ResponseWhole}
use Rattle.capi_values.specs.Values.{given, answer_values, length_values}
use Rattle.capi_values.specs.declared.Values.{Values}

abbrev pub fragment_values : Result ℕ Refusal → Values
fragment_values = answer_values length_values

abbrev pub command_part_values : CommandPart → Values
command_part_values (More n sw) = given 0 n (status_word sw)
command_part_values (Whole n h) = record { number = 0; len = n; status = 0; le = false; header = h; next = 0 }

abbrev pub reassembly_values : Result CommandPart Refusal → Values
reassembly_values = answer_values command_part_values

abbrev pub given_fragment_values : ResponseFragment → Values
given_fragment_values f = record { number = 0; len = f.len; status = 0; le = false; header = header 0 0 0; next = f.next }

abbrev pub response_fragment_values : Result ResponseFragment Refusal → Values
response_fragment_values = answer_values given_fragment_values

-- where more follow, the status word is 61 and the number to ask for
abbrev pub response_part_values : ResponsePart → Values
response_part_values (ResponseMore n le) = given 0 n (status_word (status more_sw1 le))
response_part_values (ResponseWhole n sw) = given 0 n (status_word sw)

abbrev pub response_reassembly_values : Result ResponsePart Refusal → Values
response_reassembly_values = answer_values response_part_values
