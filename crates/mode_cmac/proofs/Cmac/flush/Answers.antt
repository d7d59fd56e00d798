-- `flush` meets its contract: one case for a full block, one for any other.
use borrow.Author.Tests.{le-leb, lt-leb}
use mathlib.Core.Path.{ap}
use Rattle.octets.specs.Bytes.{Bytes}
use Rattle.mode_cmac.specs.Running.{flush}
use Rattle.mode_cmac.proofs.BlockByBlock.{state}
use Rattle.mode_cmac.proofs.Cmac.flush.Goals as goal

pub returns-then-self-ge16 : goal.returns-then-self-ge16
unfolding flush
returns-then-self-ge16 c = simp (le-leb 16 _ c.if-self-ge16.true) (ap (λ (x : Bytes). state x 0) c.encrypt_block.ensures)

pub returns : goal.returns
unfolding flush
returns c = simp (lt-leb 16 _ c.if-self-ge16.false)
