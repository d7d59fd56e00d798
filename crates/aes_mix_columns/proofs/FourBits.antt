-- K times a byte, for a K of four bits: the sum of four multiples by powers of x, as the code makes it.
use Rattle.std.proofs.Common.{◌≡◌, ℕ, ◌*◌, ◌/◌, ◌%◌, ◌<◌, ap, sym, ◌∙◌, refl, arith}
use lib.Bits.{xor_comm, xor_zero_r}
use Rattle.octets.specs.Bytes.{◌⊕◌}
use Rattle.aes_gf.specs.Field.{x_times, product, ◌•◌}
use Rattle.aes_gf.proofs.Product.{step}

-- the sum of four, and nothing more, from its other end
from_the_end : (p q r s : ℕ) → s ⊕ r ⊕ q ⊕ p ≡ p ⊕ (q ⊕ (r ⊕ (s ⊕ 0)))
from_the_end p q r s =
    xor_comm (s ⊕ r ⊕ q) p
    ∙ ap (λ (n : ℕ). p ⊕ n) (xor_comm (s ⊕ r) q ∙ ap (λ (n : ℕ). q ⊕ n) (xor_comm s r ∙ ap (λ (n : ℕ). r ⊕ n) (sym (xor_zero_r s))))

no_bits : (a : ℕ) → product 4 0 a ≡ 0
unfolding product
no_bits a = refl

pub times_of : (k a : ℕ) {a2 a4 a8 : ℕ} → k < 16 → a2 ≡ x_times a → a4 ≡ x_times a2 → a8 ≡ x_times a4
    → (k / 8 % 2 * a8) ⊕ (k / 4 % 2 * a4) ⊕ (k / 2 % 2 * a2) ⊕ (k % 2 * a) ≡ k • a
unfolding ◌•◌
times_of k a {a2} {a4} {a8} h e2 e4 e8 =
    let x2 = x_times a in
    let x4 = x_times x2 in
    let x8 = x_times x4 in
    let fourth : k / 4 ≡ k / 2 / 2 = omega arith in
    let eighth : k / 8 ≡ k / 2 / 2 / 2 = omega arith in
    let none : k / 2 / 2 / 2 / 2 ≡ 0 = omega arith in
    let whole : (k % 2 * a) ⊕ ((k / 2 % 2 * x2) ⊕ ((k / 2 / 2 % 2 * x4) ⊕ ((k / 2 / 2 / 2 % 2 * x8) ⊕ product 4 (k / 2 / 2 / 2 / 2) (x_times x8)))) ≡ product 8 k a =
    ap (λ (n : ℕ). (k % 2 * a) ⊕ n)
    (ap (λ (n : ℕ). (k / 2 % 2 * x2) ⊕ n)
    (ap (λ (n : ℕ). (k / 2 / 2 % 2 * x4) ⊕ n) (step 5 (k / 2 / 2 / 2) x8 (omega arith)) ∙ step 6 (k / 2 / 2) x4 (omega arith))
    ∙ step 7 (k / 2) x2 (omega arith))
    ∙ step 8 k a (omega arith) in
    from_the_end (k % 2 * a) (k / 2 % 2 * a2) (k / 4 % 2 * a4) (k / 8 % 2 * a8)
    ∙ rw (e8, e4, e2, fourth, eighth, ← no_bits (x_times x8), ← none) whole
