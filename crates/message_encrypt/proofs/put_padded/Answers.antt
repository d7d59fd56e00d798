-- `put_padded` meets its contract: two writes, one after the other.
use native.Mathlib.Omega.{arith}
use Rattle.octets.proofs.Writing.{wrote_then, wrote_length}
use Rattle.field_padding.specs.Padding.{pad, padded_length}
use Rattle.field_padding.proofs.Lengths.{length_padding}
use lib.ListN.{length}
use Rattle.message_encrypt.proofs.put_padded.Goals as goal

pub put_bytes-p-requires : goal.put_bytes-p-requires
unfolding padded_length
put_bytes-p-requires c = omega (arith, c.requires)

pub put_padding-requires : goal.put_padding-requires
unfolding padded_length
put_padding-requires c =
    let w = c.put_bytes-p.ensures in
    let h = c.requires in
    omega (arith, h, w.end, wrote_length (omega (arith, h)) w, length_padding (length c.args.«data».now))

pub returns : goal.returns
unfolding pad
returns c = wrote_then (omega arith) c.put_bytes-p.ensures c.put_padding.ensures
