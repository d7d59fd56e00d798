-- ⌈n / p⌉ parts of p bytes cover n bytes: part k starts within them exactly where k is below it, and the last one ends with them.
use mathlib.Core.Path.{◌≡◌}
use Prim.Native.Nat.{ℕ, suc, min, ◌+◌, ◌*◌, ◌-◌, ◌/◌, ◌%◌, ◌≤◌, ◌<◌}
use native.Mathlib.Nat.{suc-mul, le-div_iff_mul-le, div-lt_iff_lt-mul}
use native.Mathlib.Omega.{arith}
use Rattle.std.proofs.lemmas.Grind.{div_ceil_times}
use Rattle.chain_parts.specs.Parts.{ceiling}

-- as `div_ceil` has it
pub ceiling_is : (n p : ℕ) → 0 < p → n / p + min 1 (n % p) ≡ ceiling n p
ceiling_is n p positive =
    let q = n / p + min 1 (n % p) in
    let bounds = div_ceil_times n p positive in
    omega (arith, (le-div_iff_mul-le {k = p} {x = q} {y = n + (p - 1)} positive).1 (omega (arith, bounds.1)), (div-lt_iff_lt-mul {k = p} {x = n + (p - 1)} {y = suc q} positive).1 (omega (arith, bounds.0, suc-mul q p)))

module _ (n p k : ℕ) (positive : 0 < p) where
  pub starts_within : k < ceiling n p → k * p < n
  starts_within h = omega (arith, (le-div_iff_mul-le {k = p} {x = suc k} {y = n + (p - 1)} positive).0 h, suc-mul k p)

  pub below_ceiling : k * p < n → k < ceiling n p
  below_ceiling h = (le-div_iff_mul-le {k = p} {x = suc k} {y = n + (p - 1)} positive).1 (omega (arith, suc-mul k p))

  pub ends_with_last : suc k ≡ ceiling n p → n ≤ k * p + p
  ends_with_last e =
      omega (arith, (div-lt_iff_lt-mul {k = p} {x = n + (p - 1)} {y = suc (suc k)} positive).0 (omega arith), suc-mul k p, suc-mul (suc k) p)
