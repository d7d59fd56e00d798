-- A decision procedure: two sums of bytes and of their multiples by x are equal where each byte has the same coefficient in
-- both, a polynomial over GF(2). The coefficients are computed. `MixColumn` uses `equal`.
use mathlib.Core.Path.{◌≡◌, refl, sym, ap, ap₂, ◌∙◌}
use mathlib.Core.Bool.{Bool, true, false, ◌&&◌}
use mathlib.Core.List.{List, [], ◌∷◌}
use Prim.Native.Nat.{ℕ, zero, suc, ◌<◌, ◌≤◌}
use native.Mathlib.Nat.{not-suc-le-zero}
use native.Mathlib.Omega.{arith}
use borrow.Author.Tests.{eqb-true, eqb-false, eq-eqb, ne_eqb}
use lib.Bits.{xor_zero_r, xor_self}
use lib.Dec.{T, eqb, ltb, ltb→lt}
use Rattle.octets.specs.Bytes.{◌⊕◌}
use Rattle.std.specs.Prelude.{if◌then◌else◌}
use Rattle.octets.proofs.Table.{both_left, both_right}
use Rattle.octets.proofs.Xor.{swap, xor_eq}
use Rattle.aes_gf.specs.Field.{x_times}
use Rattle.aes_gf.proofs.XTimes.{x_times_sum, x_times-zero}

-- ---- polynomials over GF(2), lowest coefficient first

abbrev Polynomial : Type 0
Polynomial = List Bool

abbrev differs : Bool → Bool → Bool
differs false y = y
differs true false = true
differs true true = false

abbrev add : Polynomial → Polynomial → Polynomial
add [] q = q
add (x ∷ p) [] = x ∷ p
add (x ∷ p) (y ∷ q) = differs x y ∷ add p q

-- the polynomial times the byte a
abbrev times : Polynomial → ℕ → ℕ
times [] a = 0
times (x ∷ p) a = (if x then a else 0) ⊕ times p (x_times a)

chosen_sum : (x y : Bool) (a : ℕ) → (if differs x y then a else 0) ≡ (if x then a else 0) ⊕ (if y then a else 0)
chosen_sum false y a = refl
chosen_sum true false a = sym (xor_zero_r a)
chosen_sum true true a = sym (xor_self a)

times_sum : (p q : Polynomial) (a : ℕ) → times (add p q) a ≡ times p a ⊕ times q a
times_sum [] q a = refl
times_sum (x ∷ p) [] a = sym (xor_zero_r ((if x then a else 0) ⊕ times p (x_times a)))
times_sum (x ∷ p) (y ∷ q) a =
    ap₂ ◌⊕◌ (chosen_sum x y a) (times_sum p q (x_times a))
    ∙ swap (if x then a else 0) (if y then a else 0) (times p (x_times a)) (times q (x_times a))

chosen_x : (x : Bool) (a : ℕ) → (if x then x_times a else 0) ≡ x_times (if x then a else 0)
chosen_x false a = sym x_times-zero
chosen_x true a = refl

times_x : (p : Polynomial) (a : ℕ) → times p (x_times a) ≡ x_times (times p a)
times_x [] a = sym x_times-zero
times_x (x ∷ p) a =
    ap₂ ◌⊕◌ (chosen_x x a) (times_x p (x_times a)) ∙ sym (x_times_sum (if x then a else 0) (times p (x_times a)))

abbrev is_zero : Polynomial → Bool
is_zero [] = true
is_zero (true ∷ p) = false
is_zero (false ∷ p) = is_zero p

times_zero : (p : Polynomial) (a : ℕ) → T (is_zero p) → times p a ≡ 0
times_zero [] a t = refl
times_zero (true ∷ p) a t = absurd t
times_zero (false ∷ p) a t = times_zero p (x_times a) t

-- ---- the sum of f 0, .., f (n - 1)

abbrev total : ℕ → (ℕ → ℕ) → ℕ
total zero f = 0
total (suc n) f = total n f ⊕ f n

total_ext : (n : ℕ) {f g : ℕ → ℕ} → ((i : ℕ) → i < n → f i ≡ g i) → total n f ≡ total n g
total_ext zero h = refl
total_ext (suc n) h = ap₂ ◌⊕◌ (total_ext n (λ i k. h i (omega arith))) (h n (omega arith))

total_sum : (n : ℕ) (f g : ℕ → ℕ) → total n (λ i. f i ⊕ g i) ≡ total n f ⊕ total n g
total_sum zero f g = refl
total_sum (suc n) f g = ap (λ (x : ℕ). x ⊕ (f n ⊕ g n)) (total_sum n f g) ∙ swap (total n f) (total n g) (f n) (g n)

total_x : (n : ℕ) (f : ℕ → ℕ) → total n (λ i. x_times (f i)) ≡ x_times (total n f)
total_x zero f = sym x_times-zero
total_x (suc n) f = ap (λ (x : ℕ). x ⊕ x_times (f n)) (total_x n f) ∙ sym (x_times_sum (total n f) (f n))

total_none : (n : ℕ) → total n (λ i. 0) ≡ 0
total_none zero = refl
total_none (suc n) = ap (λ (x : ℕ). x ⊕ 0) (total_none n)

-- ---- sums of the bytes ρ 0, ρ 1, ..

pub data Sum : Type 0 where
  byte : ℕ → Sum
  none : Sum
  plus : Sum → Sum → Sum
  by_x : Sum → Sum

abbrev pub value : (ℕ → ℕ) → Sum → ℕ
value ρ (byte v) = ρ v
value ρ none = 0
value ρ (plus e f) = value ρ e ⊕ value ρ f
value ρ (by_x e) = x_times (value ρ e)

-- the coefficient of byte i
abbrev coefficient : ℕ → Sum → Polynomial
coefficient i (byte v) = if eqb i v then true ∷ [] else []
coefficient i none = []
coefficient i (plus e f) = add (coefficient i e) (coefficient i f)
coefficient i (by_x e) = false ∷ coefficient i e

-- every byte of the sum is among the first n
abbrev within : ℕ → Sum → Bool
within n (byte v) = ltb v n
within n none = true
within n (plus e f) = within n e && within n f
within n (by_x e) = within n e

-- the first n bytes have coefficient zero
abbrev vanishes : ℕ → Sum → Bool
vanishes zero e = true
vanishes (suc n) e = vanishes n e && is_zero (coefficient n e)

module _ (ρ : ℕ → ℕ) where
  -- the sum, byte by byte
  abbrev normal : ℕ → Sum → ℕ
  normal n e = total n (λ i. times (coefficient i e) (ρ i))

  other : (i v : ℕ) → (i ≡ v → ⊥) → times (coefficient i (byte v)) (ρ i) ≡ 0
  other i v h = rw (ne_eqb i v h)

  same : (v : ℕ) → times (coefficient v (byte v)) (ρ v) ≡ ρ v
  same v = rw (eq-eqb v v refl) (xor_zero_r (ρ v))

  absent : (n v : ℕ) → n ≤ v → normal n (byte v) ≡ 0
  absent n v h = total_ext n (λ i k. other i v (λ e. omega arith)) ∙ total_none n

  normal_byte : (n v : ℕ) → v < n → normal n (byte v) ≡ ρ v
  normal_byte zero v h = absurd (not-suc-le-zero h)
  normal_byte (suc n) v h = by (λ k. normal_byte n v k) (eqb n v) refl
    where
      by : (v < n → normal n (byte v) ≡ ρ v) → (t : Bool) → eqb n v ≡ t → normal (suc n) (byte v) ≡ ρ v
      by below true e =
          let q : n ≡ v = eqb-true n v e in
          ap₂ ◌⊕◌ (absent n v (omega arith)) (ap (λ (i : ℕ). times (coefficient i (byte v)) (ρ i)) q ∙ same v)
      by below false e =
          ap₂ ◌⊕◌ (below (let q : n ≡ v → ⊥ = eqb-false n v e in omega arith)) (other n v (eqb-false n v e))
          ∙ xor_zero_r (ρ v)

  value_normal : (n : ℕ) (e : Sum) → T (within n e) → value ρ e ≡ normal n e
  value_normal n (byte v) t = sym (normal_byte n v (ltb→lt v n t))
  value_normal n none t = sym (total_none n)
  value_normal n (plus e f) t =
      ap₂ ◌⊕◌ (value_normal n e (both_left (within n e) (within n f) t)) (value_normal n f (both_right (within n e) (within n f) t))
      ∙ sym (total_sum n (λ i. times (coefficient i e) (ρ i)) (λ i. times (coefficient i f) (ρ i)))
      ∙ total_ext n (λ i k. sym (times_sum (coefficient i e) (coefficient i f) (ρ i)))
  value_normal n (by_x e) t =
      ap x_times (value_normal n e t) ∙ sym (total_x n (λ i. times (coefficient i e) (ρ i)))
      ∙ total_ext n (λ i k. sym (times_x (coefficient i e) (ρ i)))

  normal_zero : (n : ℕ) (e : Sum) → T (vanishes n e) → normal n e ≡ 0
  normal_zero zero e t = refl
  normal_zero (suc n) e t =
      ap₂ ◌⊕◌ (normal_zero n e (both_left (vanishes n e) (is_zero (coefficient n e)) t))
      (times_zero (coefficient n e) (ρ n) (both_right (vanishes n e) (is_zero (coefficient n e)) t))

  -- sums of the first n bytes with the same coefficients are equal
  pub equal : (n : ℕ) (e f : Sum) → T (within n (plus e f) && vanishes n (plus e f)) → value ρ e ≡ value ρ f
  equal n e f t =
      xor_eq (value ρ e) (value ρ f)
      (value_normal n (plus e f) (both_left (within n (plus e f)) (vanishes n (plus e f)) t)
      ∙ normal_zero n (plus e f) (both_right (within n (plus e f)) (vanishes n (plus e f)) t))
