-- FIPS 197, 4.4: multiplicative inverses in GF(2^8).
use Rattle.std.specs.Prelude.{ℕ, zero, suc}
use Rattle.aes_gf.specs.Field.{◌•◌}

-- b • b^2 • b^4 • .., n factors: b to the power 2^n - 1
unfoldable pub powers : ℕ → ℕ → ℕ
powers zero b = 1
powers (suc n) b = b • powers n (b • b)

-- 4.4: the multiplicative inverse b^254, and 0 at 0
unfoldable pub inverse : ℕ → ℕ
inverse b = powers 7 (b • b)
