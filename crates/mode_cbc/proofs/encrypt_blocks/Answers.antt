-- `encrypt_blocks` meets its contract: the blocks done and what the mode makes of the others are what it makes of all.
use borrow.Author.Rules.{rules}
use mathlib.Core.Path.{◌∙◌, sym}
use Prim.Native.Nat.{◌/◌}
use native.Mathlib.Omega.{arith}
use lib.ListN.{length}
use Rattle.aes.specs.Aes.{ciph}
use Rattle.mode_cbc.proofs.BlockByBlock.{encrypt_start, encrypt_more, encrypt_end}
use Rattle.mode_cbc.proofs.encrypt_blocks.Goals as goal

pub loop-i-init : goal.loop-i-init
loop-i-init c = let a = c.args in encrypt_start (ciph a.key.now.size a.key.now.words) a.iv a.«data».now

pub loop-i-preserved : goal.loop-i-preserved
loop-i-preserved c =
    let a = c.args in
    let L = c.loop-i in
    encrypt_more (ciph a.key.now.size a.key.now.words) (length a.«data».now / 16) L.i L.last L.«data» c.loop-i-test.true
    (omega (arith, L.auto.«data»)) c.array_at.ensures c.xor_block.ensures c.encrypt_block-block.ensures (search rules)
    c.put_bytes.ensures.bytes
    ∙ L.invariant

pub returns : goal.returns
returns c =
    let a = c.args in
    let L = c.loop-i in
    sym (encrypt_end (ciph a.key.now.size a.key.now.words) (length a.«data».now / 16) L.i L.last L.«data» (omega arith) (omega (arith, L.auto.«data»)))
    ∙ L.invariant
