-- `put_command` meets its contract: five bytes, then the data.
use native.Mathlib.Omega.{arith}
use Rattle.octets.proofs.Writing.{wrote_then}
use Rattle.chain_fragment_command.proofs.command_apdu.put_command.Goals as goal

pub returns : goal.returns
returns c = wrote_then (omega arith) c.put_bytes-n.ensures c.put_bytes.ensures
