-- `put_command` meets its contract: the objects before '8E' have 22 bytes and the whole field 32, which is the room that was checked.
use native.Mathlib.Omega.{arith}
use Rattle.octets.proofs.Writing.{wrote_length}
use Rattle.field_padding.specs.Padding.{padded_length}
use Rattle.field_ber_length.specs.Length.{length_field}
use Rattle.field_write.specs.Objects.{object, encrypted_data, le_object, command_objects}
use Rattle.field_size.specs.Lengths.{ciphertext_length, encrypted_data_length, command_length}
use Rattle.test_damaged_fields.proofs.put_command.Goals as goal

pub put_command_objects-next-requires : goal.put_command_objects-next-requires
unfolding command_objects encrypted_data le_object object length_field command_length encrypted_data_length ciphertext_length padded_length
put_command_objects-next-requires c = (omega arith, omega arith)

pub put_mac-requires : goal.put_mac-requires
unfolding command_objects encrypted_data le_object object length_field command_length encrypted_data_length ciphertext_length padded_length
put_mac-requires c =
    let w = c.put_command_objects-next.ensures in
    omega (arith, w.end, wrote_length (omega arith) w)
