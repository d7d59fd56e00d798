-- The inverse is a byte, whatever number it is of. The laws of the inverse S-box use this.
use Prim.Native.Nat.{ℕ, zero, suc, ◌<◌}
use lib.Dec.{lit<}
use Rattle.aes_gf.specs.Field.{◌•◌}
use Rattle.aes_gf.proofs.XTimes.{times_byte}
use Rattle.aes_inverses.specs.Inverse.{powers, inverse}

powers_byte : (n b : ℕ) → powers n b < 256
unfolding powers
powers_byte zero b = lit< tt
powers_byte (suc n) b = times_byte b (powers n (b • b)) (powers_byte n (b • b))

pub inverse_byte : (b : ℕ) → inverse b < 256
unfolding inverse
inverse_byte b = powers_byte 7 (b • b)
