-- `put_response_objects` meets its contract: two objects, one after the other.
use native.Mathlib.Omega.{arith}
use Rattle.octets.proofs.Writing.{wrote_then, wrote_length}
use Rattle.field_write.specs.Objects.{response_objects}
use Rattle.field_write.proofs.FieldLengths.{length_response_objects, status_bytes}
use Rattle.field_write.proofs.put_response_objects.Goals as goal

pub put_encrypted_data-n-requires : goal.put_encrypted_data-n-requires
put_encrypted_data-n-requires c = (omega arith, omega (arith, length_response_objects c.args.ciphertext.now c.args.sw1 c.args.sw2))

pub put_bytes-requires : goal.put_bytes-requires
put_bytes-requires c =
    let h = length_response_objects c.args.ciphertext.now c.args.sw1 c.args.sw2 in
    let w = c.put_encrypted_data-n.ensures in
    omega (arith, h, w.end, wrote_length (omega (arith, h)) w)

pub returns : goal.returns
unfolding response_objects
returns c = rw (status_bytes c.args.sw1 c.args.sw2) (wrote_then (omega arith) c.put_encrypted_data-n.ensures c.put_bytes.ensures)
