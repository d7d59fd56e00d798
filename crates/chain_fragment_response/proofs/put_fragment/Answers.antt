-- `put_fragment` meets its contract: the data, then the status word.
use native.Mathlib.Omega.{arith}
use Rattle.octets.proofs.Writing.{wrote_then}
use Rattle.chain_fragment_response.proofs.put_fragment.Goals as goal

pub returns : goal.returns
returns c = wrote_then (omega arith) c.put_bytes-n.ensures c.put_status.ensures
