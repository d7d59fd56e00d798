-- One bit more of a product of two bytes, for the loop of `multiply` and for the multiples of MixColumns.
use mathlib.Core.Path.{◌≡◌, ap, ap₂, ◌∙◌}
use Prim.Native.Nat.{ℕ, zero, suc, ◌-◌, ◌*◌, ◌/◌, ◌%◌, ◌<◌}
use native.Mathlib.Nat.{one-mul, zero-mul}
use native.Mathlib.Omega.{arith}
use lib.Dec.{eqb}
use Rattle.octets.specs.Bytes.{◌⊕◌}
use Rattle.std.specs.Prelude.{if◌then◌else◌}
use Rattle.octets.proofs.Xor.{xor_assoc}
use Rattle.aes_gf.specs.Field.{x_times, product}

-- the code multiplies by the bit where the definition chooses by it
chosen : (d a : ℕ) → d < 2 → d * a ≡ (if eqb d 1 then a else 0)
chosen zero a h = zero-mul a
chosen (suc zero) a h = one-mul a
chosen (suc (suc d)) a h = let z : ⊥ = omega arith in absurd z

pub step : (n b a : ℕ) → 0 < n → (b % 2 * a) ⊕ product (n - 1) (b / 2) (x_times a) ≡ product n b a
unfolding product
step zero b a h = let z : ⊥ = omega arith in absurd z
step (suc n) b a h =
    let e : suc n - 1 ≡ n = omega arith in
    ap₂ (λ (x k : ℕ). x ⊕ product k (b / 2) (x_times a)) (chosen (b % 2) a (omega arith)) e

pub product_more : (s n b a x : ℕ) {p : ℕ} → 0 < n → x ≡ x_times a → s ⊕ product n b a ≡ p
    → (s ⊕ (b % 2 * a)) ⊕ product (n - 1) (b / 2) x ≡ p
product_more s n b a x h e inv =
    ap (λ (y : ℕ). (s ⊕ (b % 2 * a)) ⊕ product (n - 1) (b / 2) y) e
    ∙ xor_assoc s (b % 2 * a) (product (n - 1) (b / 2) (x_times a))
    ∙ ap (λ (y : ℕ). s ⊕ y) (step n b a h)
    ∙ inv
