-- `absorb_block` meets its contract: a whole block after a flush, or byte after byte.
use borrow.Author.Rules.{rules}
use mathlib.Core.Path.{ap, ◌∙◌}
use native.Mathlib.Omega.{arith}
use lib.Seq.{take_all}
use Rattle.octets.specs.Bytes.{Bytes, ◌xor◌}
use Rattle.aes.specs.Aes.{ciph}
use Rattle.mode_cmac.proofs.BlockByBlock.{whole_block}
use Rattle.mode_cmac.proofs.Cmac.absorb_block.Goals as goal

pub returns-then-flushed-eq0 : goal.returns-then-flushed-eq0
returns-then-flushed-eq0 c =
    let a = c.args in
    let f = ciph a.key.now.size a.key.now.words in
    let t = c.flush-flushed in
    whole_block f a.self t.result a.«data».now c.xor_block.result t.ensures (search rules) c.if-flushed-eq0.true c.if-data-eq16.true
    (c.xor_block.ensures ∙ ap (λ (b : Bytes). t.result.chain xor b) (c.array_at.ensures ∙ take_all 16 a.«data».now (omega arith)))
