-- Before each turn the sum so far, and the product of the bits that are left, make the whole product.
use Rattle.std.proofs.Common.{◌≡◌, ◌-◌}
use Rattle.octets.specs.Bytes.{◌⊕◌}
use Rattle.aes_gf.specs.Field.{product}
use Rattle.aes_gf.proofs.multiply.Given as goal

abbrev pub invariant-loop : goal.invariant-loop
invariant-loop l = l.sum ⊕ product (8 - l.counter) l.bits l.shifted ≡ product 8 l.b l.a
