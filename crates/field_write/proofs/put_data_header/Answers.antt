-- `put_data_header` meets its contract: three writes, one after the other.
use native.Mathlib.Omega.{arith}
use Rattle.octets.proofs.Writing.{wrote_then, wrote_length}
use Rattle.field_write.proofs.put_data_header.Goals as goal

pub put_length-v-requires : goal.put_length-v-requires
put_length-v-requires c = let w = c.put_byte-n.ensures in (omega (arith), omega (arith, w.end, wrote_length (omega arith) w))

pub put_byte-requires : goal.put_byte-requires
put_byte-requires c = let w = c.put_byte-n.ensures in let v = c.put_length-v.ensures in omega (arith, w.end, v.end, wrote_length (omega arith) w, wrote_length (omega (arith, w.end, wrote_length (omega arith) w)) v)

pub returns : goal.returns
returns c = wrote_then (omega arith) (wrote_then (omega arith) c.put_byte-n.ensures c.put_length-v.ensures) c.put_byte.ensures
