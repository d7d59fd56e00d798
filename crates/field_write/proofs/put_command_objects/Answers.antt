-- `put_command_objects` meets its contract: two objects, one after the other.
use native.Mathlib.Omega.{arith}
use Rattle.octets.proofs.Writing.{wrote_then, wrote_length}
use Rattle.field_write.specs.Objects.{command_objects}
use Rattle.field_write.proofs.FieldLengths.{length_command_objects}
use Rattle.field_write.proofs.put_command_objects.Goals as goal

pub put_encrypted_data-n-requires : goal.put_encrypted_data-n-requires
put_encrypted_data-n-requires c = (omega arith, omega (arith, length_command_objects c.args.ciphertext.now c.args.le))

pub put_le-requires : goal.put_le-requires
put_le-requires c =
    let h = length_command_objects c.args.ciphertext.now c.args.le in
    let w = c.put_encrypted_data-n.ensures in
    omega (arith, h, w.end, wrote_length (omega (arith, h)) w)

pub returns : goal.returns
unfolding command_objects
returns c = wrote_then (omega arith) c.put_encrypted_data-n.ensures c.put_le.ensures
