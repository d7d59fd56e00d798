-- `powers` by the number of factors, for the recursion of the code: no factor, and one more.
use mathlib.Core.Path.{◌≡◌, refl, ap}
use Prim.Native.Nat.{ℕ, zero, suc, ◌-◌}
use native.Mathlib.Omega.{arith}
use Rattle.aes_gf.specs.Field.{◌•◌}
use Rattle.aes_inverses.specs.Inverse.{powers}

pub powers_none : (n b : ℕ) → n ≡ 0 → 1 ≡ powers n b
unfolding powers
powers_none zero b h = refl
powers_none (suc n) b h = let z : ⊥ = omega arith in absurd z

pub powers_more : (n b : ℕ) → (n ≡ 0 → ⊥) → b • powers (n - 1) (b • b) ≡ powers n b
unfolding powers
powers_more zero b h = absurd (h refl)
powers_more (suc n) b h = let e : suc n - 1 ≡ n = omega arith in ap (λ (k : ℕ). b • powers k (b • b)) e
