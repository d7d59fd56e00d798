-- `put_header` meets its contract: the length, four bytes, then the count.
use native.Mathlib.Omega.{arith}
use Rattle.octets.proofs.Writing.{wrote_then}
use Rattle.octets_numbers.specs.BigEndian.{big_endian}
use Rattle.session_bytes.specs.Saved.{header}
use Rattle.session_bytes.proofs.put_header.Goals as goal

pub returns : goal.returns
unfolding header big_endian
returns c =
    rw (
      c.to_be_bytes.ensures,
      c.side_number.ensures,
      c.phase_number.ensures,
      c.number.ensures,
    ) at (wrote_then (omega arith) (wrote_then (omega arith) c.put_bytes-k.ensures c.put_bytes-n.ensures) c.put_four_byte_number.ensures)
