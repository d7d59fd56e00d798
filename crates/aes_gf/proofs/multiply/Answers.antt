-- `multiply` meets its contract: the sum so far, and the product of the bits that are left, make the whole product.
use Rattle.std.proofs.Common.{◌≡◌, ◌∙◌, ◌+◌, ◌-◌, arith, sym}
use lib.Bits.{xor_zero_r}
use Rattle.octets.specs.Bytes.{◌⊕◌}
use Rattle.aes_gf.specs.Field.{product, ◌•◌}
use Rattle.aes_gf.proofs.Product.{product_more}
use Rattle.aes_gf.proofs.multiply.Goals as goal

pub loop-preserved : goal.loop-preserved
loop-preserved c =
    let l = c.loop in
    let left : 8 - (l.counter + 1) ≡ 8 - l.counter - 1 = omega arith in
    rw left (product_more l.sum (8 - l.counter) l.bits l.shifted c.x_times-shifted.result (omega arith) c.x_times-shifted.ensures l.invariant)

pub returns : goal.returns
unfolding ◌•◌ product
returns c =
    let l = c.loop in
    let none : 8 - l.counter ≡ 0 = omega arith in
    let whole : l.sum ⊕ product 0 l.bits l.shifted ≡ product 8 c.args.b c.args.a = rw none at l.invariant in
    sym (xor_zero_r l.sum) ∙ whole
