use mathlib.Core.Path.{◌≡◌}
use Rattle.std.specs.Slice.Iter.{chunks_rest, chunks_size}
use Rattle.aes.specs.Aes.{ciph}
use Rattle.mode_cmac.specs.Running.{absorb}
use Rattle.mode_cmac.proofs.Cmac.absorb.Given as goal

abbrev pub invariant-loop-block : goal.invariant-loop-block
invariant-loop-block l =
    goal.iterator-loop-block.can_next l.block-iterator
    × goal.iterator-loop-block.is_finite l.block-iterator
    × (chunks_size l.block-iterator ≡ 16)
    × (absorb (ciph l.key.size l.key.words) l.state (chunks_rest l.block-iterator)
    ≡ absorb (ciph l.key.size l.key.words) l.fn.self l.fn.«data»)
