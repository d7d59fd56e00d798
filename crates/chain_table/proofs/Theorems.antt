-- The lines of the table hold: the checker computes them.
use mathlib.Core.Path.{refl}
use Rattle.field_padding.specs.Padding.{padded_length}
use Rattle.field_ber_length.specs.Length.{length_field}
use Rattle.field_size.specs.Lengths.{ciphertext_length, encrypted_data_length, command_length, response_length}
use Rattle.field_write.specs.Objects.{object, encrypted_data}
use Rattle.chain_command.specs.Apdu.{fragment_apdu}
use Rattle.chain_command.specs.Fragment.{fragment_size, fragment_count, fragment}
use Rattle.chain_response.specs.Fragment.{asked, fragment_data, next}
use Rattle.chain_table.specs.Table.{handed_out, answer, LinesHold}

pub lines_hold : LinesHold
unfolding answer padded_length length_field ciphertext_length encrypted_data_length command_length response_length object encrypted_data fragment_apdu fragment_size fragment_count fragment asked fragment_data next handed_out
lines_hold = refl
