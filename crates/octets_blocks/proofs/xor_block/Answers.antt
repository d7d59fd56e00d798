-- `xor_block` meets its contract: before each turn the first i sums are stored.
use Rattle.std.proofs.Common.{rules, ◌≡◌, ◌∙◌, take, length-set, arith, sym, refl}
use lib.Seq.{take_all}
use Rattle.octets.specs.Bytes.{tabulate}
use Rattle.octets.proofs.Tabulate.{tabulate_store, tabulate_xor}
use Rattle.octets_blocks.proofs.xor_block.Invariants.{sum}
use Rattle.octets_blocks.proofs.xor_block.Goals as goal

pub loop-i-init : goal.loop-i-init
loop-i-init c = (refl, refl)

pub loop-i-preserved : goal.loop-i-preserved
loop-i-preserved c =
    let l = c.loop-i in
    (simp length-set l.invariant.0, tabulate_store l.i (sum c.args.a c.args.b) l.block l.invariant.1 (omega arith))

pub returns : goal.returns
returns c =
    let l = c.loop-i in
    let a = c.args in
    let e : l.i ≡ 16 = omega arith in
    let all : take 16 l.block ≡ tabulate 16 (sum a.a a.b) = rw e at l.invariant.1 in
    sym (take_all 16 l.block (omega arith)) ∙ all ∙ tabulate_xor 16 a.a a.b (search rules) (search rules)
