-- The S-box and the inverse S-box give bytes, whatever numbers they are given: the affine map makes eight bits, and an inverse is
-- a byte. So what AES gives is bytes, whatever its input.
use Prim.Native.Nat.{ℕ, zero, suc, ◌^◌, ◌<◌}
use native.Mathlib.Nat.{mod-lt, zero-lt-suc, mul-le-mul_right, one-mul, pow-suc, pow-zero}
use native.Mathlib.Omega.{arith}
use Rattle.aes_inverses.specs.Inverse.{inverse}
use Rattle.aes_inverses.proofs.InverseByte.{inverse_byte}
use Rattle.aes_sbox.specs.SBox.{from_bits, affine_bit, affine, s_box, inv_affine, inv_s_box}

from_bits_lt : (n : ℕ) (f : ℕ → ℕ) → ((i : ℕ) → f i < 2) → from_bits n f < 2 ^ n
unfolding from_bits
from_bits_lt zero f h = omega (arith, pow-zero 2)
from_bits_lt (suc n) f h =
    omega (arith, from_bits_lt n f h, mul-le-mul_right {m = f n} {n = 1} (2 ^ n) (omega (arith, h n)), one-mul (2 ^ n), pow-suc 2 n)

affine_bit_lt : (b i : ℕ) → affine_bit b i < 2
unfolding affine_bit
affine_bit_lt b i = mod-lt _ (zero-lt-suc 1)

pub s_box_byte : (b : ℕ) → s_box b < 256
unfolding s_box affine
s_box_byte b = from_bits_lt 8 (affine_bit (inverse b)) (affine_bit_lt (inverse b))

pub inv_s_box_byte : (b : ℕ) → inv_s_box b < 256
unfolding inv_s_box
inv_s_box_byte b = inverse_byte (inv_affine b)
