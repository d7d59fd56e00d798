-- `put_mcvs` meets its contract: two writes, one after the other.
use native.Mathlib.Omega.{arith}
use Rattle.octets.proofs.Writing.{wrote_then}
use Rattle.session_bytes.specs.Saved.{mcvs}
use Rattle.session_bytes.proofs.put_mcvs.Goals as goal

pub returns : goal.returns
unfolding mcvs
returns c =
    wrote_then (omega arith) c.put_bytes-r.ensures
    c.put_bytes.ensures
