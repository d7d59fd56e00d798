-- FIPS 197, 5.1.1 and 5.3.2: the S-box and the inverse S-box, by their rules.
use Rattle.std.specs.Prelude.{◌≡◌, ℕ, zero, suc, ◌+◌, ◌*◌, ◌/◌, ◌%◌, ◌^◌, ◌<◌, get_or}
use Rattle.octets.specs.Bytes.{Bytes}
use Rattle.aes_inverses.specs.Inverse.{inverse}

-- bit i of b
unfoldable pub bit : ℕ → ℕ → ℕ
bit b i = b / 2 ^ i % 2

-- 5.1.1, the affine map, c = {63}: b'_i = b_i ⊕ b_(i+4) ⊕ b_(i+5) ⊕ b_(i+6) ⊕ b_(i+7) ⊕ c_i, the indices modulo 8
unfoldable pub affine_bit : ℕ → ℕ → ℕ
affine_bit b i =
    (bit b i + bit b ((i + 4) % 8) + bit b ((i + 5) % 8) + bit b ((i + 6) % 8) + bit b ((i + 7) % 8) + bit 0x63 i) % 2

-- the number whose low n bits are f 0, f 1, .., f (n - 1)
unfoldable pub from_bits : ℕ → (ℕ → ℕ) → ℕ
from_bits zero f = 0
from_bits (suc n) f = from_bits n f + f n * 2 ^ n

unfoldable pub affine : ℕ → ℕ
affine b = from_bits 8 (affine_bit b)

-- 5.1.1: the inverse, and then the affine map
unfoldable pub s_box : ℕ → ℕ
s_box b = affine (inverse b)

-- the affine map undone: b'_i = b_(i+2) ⊕ b_(i+5) ⊕ b_(i+7) ⊕ d_i, d = {05}
unfoldable pub inv_affine_bit : ℕ → ℕ → ℕ
inv_affine_bit b i = (bit b ((i + 2) % 8) + bit b ((i + 5) % 8) + bit b ((i + 7) % 8) + bit 0x05 i) % 2

unfoldable pub inv_affine : ℕ → ℕ
inv_affine b = from_bits 8 (inv_affine_bit b)

-- 5.3.2: InvSBox is SBox with inputs and outputs switched. Here it is the affine map undone and then the inverse;
-- `inv_s_box-s_box` in proofs/TableRule.antt shows that this is the same
unfoldable pub inv_s_box : ℕ → ℕ
inv_s_box b = inverse (inv_affine b)

-- a table whose entry b is f b, for each byte b
pub record IsTable (f : ℕ → ℕ) (t : Bytes) : Type 0 where
  pub rule : (b : ℕ) → b < 256 → get_or t b 0 ≡ f b
