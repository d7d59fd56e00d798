-- xTimes is linear, and keeps a byte a byte; so does every product. The laws of MixColumns and of the round keys use these.
use mathlib.Core.Path.{◌≡◌, refl, sym, ap, ap₂, ◌∙◌}
use mathlib.Core.Bool.{Bool, true, false}
use Prim.Native.Nat.{ℕ, zero, suc, ◌*◌, ◌/◌, ◌%◌, ◌<◌}
use native.Mathlib.Nat.{mod-lt, zero-lt-suc, le_of_suc-le-suc, not-suc-le-zero, add-zero}
use native.Mathlib.Omega.{arith}
use lib.Bits.{differ, xor_block, xor_mod, xor_shr}
use lib.Dec.{eqb}
use Rattle.octets.specs.Bytes.{◌⊕◌}
use Rattle.std.specs.Prelude.{if◌then◌else◌}
use Rattle.octets.proofs.Xor.{xor_byte, xor_odd, swap}
use Rattle.aes_gf.specs.Field.{x_times, product, ◌•◌}

-- a multiple of 0x1b by the exclusive or of two bits
bit_times : (x y : ℕ) → x < 2 → y < 2 → differ x y * 0x1b ≡ (x * 0x1b) ⊕ (y * 0x1b)
bit_times zero zero hx hy = refl
bit_times zero (suc zero) hx hy = refl
bit_times (suc zero) zero hx hy = refl
bit_times (suc zero) (suc zero) hx hy = refl
bit_times zero (suc (suc y)) hx hy = absurd (not-suc-le-zero (le_of_suc-le-suc (le_of_suc-le-suc hy)))
bit_times (suc zero) (suc (suc y)) hx hy = absurd (not-suc-le-zero (le_of_suc-le-suc (le_of_suc-le-suc hy)))
bit_times (suc (suc x)) y hx hy = absurd (not-suc-le-zero (le_of_suc-le-suc (le_of_suc-le-suc hx)))

twice : (a b : ℕ) → (a * 2) ⊕ (b * 2) ≡ (a ⊕ b) * 2
twice a b = simp add-zero at (xor_block 1 a b 0 0 (zero-lt-suc 1) (zero-lt-suc 1))

shifted : (a b : ℕ) → (a ⊕ b) * 2 % 256 ≡ (a * 2 % 256) ⊕ (b * 2 % 256)
shifted a b = ap (λ (x : ℕ). x % 256) (sym (twice a b)) ∙ xor_mod (a * 2) (b * 2) 8

reduced : (a b : ℕ) → (a ⊕ b) / 128 % 2 * 0x1b ≡ (a / 128 % 2 * 0x1b) ⊕ (b / 128 % 2 * 0x1b)
reduced a b =
    ap (λ (x : ℕ). x % 2 * 0x1b) (xor_shr a b 7)
    ∙ ap (λ (x : ℕ). x * 0x1b) (xor_odd (a / 128) (b / 128))
    ∙ bit_times (a / 128 % 2) (b / 128 % 2) (mod-lt (a / 128) (zero-lt-suc 1)) (mod-lt (b / 128) (zero-lt-suc 1))

pub x_times_sum : (a b : ℕ) → x_times (a ⊕ b) ≡ x_times a ⊕ x_times b
unfolding x_times
x_times_sum a b =
    ap₂ ◌⊕◌ (shifted a b) (reduced a b)
    ∙ swap (a * 2 % 256) (b * 2 % 256) (a / 128 % 2 * 0x1b) (b / 128 % 2 * 0x1b)

pub x_times-zero : x_times 0 ≡ 0
unfolding x_times
x_times-zero = refl

pub x_times_byte : (a : ℕ) → x_times a < 256
unfolding x_times
x_times_byte a =
    let high : a / 128 % 2 < 2 = mod-lt (a / 128) (zero-lt-suc 1) in
    xor_byte (a * 2 % 256) (a / 128 % 2 * 0x1b) (mod-lt (a * 2) (zero-lt-suc 255)) (omega arith)

chosen_byte : (t : Bool) {a : ℕ} → a < 256 → (if t then a else 0) < 256
chosen_byte true h = h
chosen_byte false h = zero-lt-suc 255

product_byte : (n b a : ℕ) → a < 256 → product n b a < 256
unfolding product
product_byte zero b a h = zero-lt-suc 255
product_byte (suc n) b a h =
    xor_byte (if eqb (b % 2) 1 then a else 0) (product n (b / 2) (x_times a)) (chosen_byte (eqb (b % 2) 1) h)
    (product_byte n (b / 2) (x_times a) (x_times_byte a))

pub times_byte : (b a : ℕ) → a < 256 → b • a < 256
unfolding ◌•◌
times_byte b a h = product_byte 8 b a h
