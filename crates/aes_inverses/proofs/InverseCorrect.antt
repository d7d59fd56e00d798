-- b^254 is the multiplicative inverse of b (FIPS 197, 4.4): one test over all bytes, computed.
use mathlib.Core.Path.{◌≡◌, sym, ap, ◌∙◌}
use mathlib.Core.Bool.{Bool, true}
use Prim.Native.Nat.{ℕ, zero, suc, ◌<◌}
use native.Mathlib.Nat.{lt_irrefl}
use lib.Dec.{eqb, eqb→eq}
use lib.ListN.{get_or}
use Rattle.octets.proofs.Table.{at_byte}
use Rattle.aes_gf.specs.Field.{x_times, product, ◌•◌}
use Rattle.aes_inverses.specs.Inverse.{inverse}
use Rattle.aes_inverses.proofs.Inverses.{inverses, inverse_at}

-- 0 has none
inverts : ℕ → Bool
inverts zero = true
inverts (suc b) = eqb (suc b • get_or inverses (suc b) 0) 1

pub inverse_correct : (b : ℕ) → 0 < b → b < 256 → b • inverse b ≡ 1
unfolding inverts x_times product ◌•◌
inverse_correct zero p h = absurd (lt_irrefl zero p)
inverse_correct (suc b) p h =
    ap (λ (x : ℕ). suc b • x) (sym (inverse_at (suc b) h))
    ∙ eqb→eq (suc b • get_or inverses (suc b) 0) 1 (at_byte inverts tt (suc b) h)
