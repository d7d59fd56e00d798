-- `put_keys` meets its contract: three writes, one after the other.
use native.Mathlib.Omega.{arith}
use Rattle.octets.proofs.Writing.{wrote_then}
use Rattle.session_bytes.specs.Saved.{keys}
use Rattle.session_bytes.proofs.put_keys.Goals as goal

pub returns : goal.returns
unfolding keys
returns c =
    wrote_then (omega arith) (wrote_then (omega arith)
    c.put_bytes-m.ensures
    c.put_bytes-r.ensures) c.put_bytes.ensures
