-- `put_mac` meets its contract: tag and length, then the MAC.
use borrow.Author.Rules.{rules}
use native.Mathlib.Omega.{arith}
use Rattle.octets.proofs.Writing.{wrote_then, wrote_length}
use Rattle.field_write.proofs.FieldLengths.{mac_bytes}
use Rattle.field_write.proofs.put_mac.Goals as goal

pub put_bytes-requires : goal.put_bytes-requires
put_bytes-requires c = let w = c.put_bytes-n.ensures in omega (arith, w.end, wrote_length (omega arith) w)

pub returns : goal.returns
returns c = rw (mac_bytes c.args.mac (search rules)) (wrote_then (omega arith) c.put_bytes-n.ensures c.put_bytes.ensures)
