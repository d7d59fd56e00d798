-- `put_response` meets its contract: the objects before '8E' have 136 bytes and the whole field 146, which is the room that was checked.
use native.Mathlib.Omega.{arith}
use Rattle.octets.proofs.Writing.{wrote_length}
use Rattle.field_padding.specs.Padding.{padded_length}
use Rattle.field_ber_length.specs.Length.{length_field}
use Rattle.field_write.specs.Objects.{object, encrypted_data, status_word, response_objects}
use Rattle.field_size.specs.Lengths.{ciphertext_length, encrypted_data_length, response_length}
use Rattle.test_damaged_fields.proofs.put_response.Goals as goal

pub put_response_objects-next-requires : goal.put_response_objects-next-requires
unfolding response_objects encrypted_data status_word object length_field response_length encrypted_data_length ciphertext_length padded_length
put_response_objects-next-requires c = (omega arith, omega arith)

pub put_mac-requires : goal.put_mac-requires
unfolding response_objects encrypted_data status_word object length_field response_length encrypted_data_length ciphertext_length padded_length
put_mac-requires c =
    let w = c.put_response_objects-next.ensures in
    omega (arith, w.end, wrote_length (omega arith) w)
