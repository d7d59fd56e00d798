-- `put_padding` meets its contract: two writes, one after the other.
use native.Mathlib.Omega.{arith}
use Rattle.octets.proofs.Writing.{wrote_then, wrote_length}
use Rattle.field_padding.specs.Padding.{padding}
use Rattle.field_padding.proofs.Lengths.{length_padding}
use Rattle.field_padding.proofs.put_padding.Goals as goal

pub put_byte-next-requires : goal.put_byte-next-requires
put_byte-next-requires c = omega (arith, length_padding c.args.p)

pub put_zeros-requires : goal.put_zeros-requires
put_zeros-requires c =
    let w = c.put_byte-next.ensures in
    omega (arith, length_padding c.args.p, w.end, wrote_length (omega (arith, length_padding c.args.p)) w)

pub returns : goal.returns
unfolding padding
returns c = wrote_then (omega (arith, length_padding c.args.p)) c.put_byte-next.ensures c.put_zeros.ensures
