-- Sameness of strings: what it means, and one byte more of it.
use mathlib.Core.Path.{◌≡◌, refl, sym, ap, ap₂, ◌∙◌}
use mathlib.Core.Bool.{Bool, true, false, ◌&&◌}
use mathlib.Core.List.{[], ◌∷◌}
use Prim.Native.Nat.{ℕ, zero, suc, ◌+◌, ◌<◌}
use native.Mathlib.Numerals.{add-one}
use native.Mathlib.Omega.{arith}
use borrow.Author.Tests.{eq-eqb, ne_eqb, eqb-true, eqb-false}
use lib.Bits.{bit_xor, bit_or, or_add_and, and_le_l, and_le_r, xor_self}
use lib.Dec.{eqb}
use lib.ListN.{length, get_or, take}
use Rattle.octets.proofs.Tests.{both}
use Rattle.octets.specs.Bytes.{Bytes}
use Rattle.octets.proofs.Xor.{xor_eq}
use Rattle.message_mac.specs.Same.{same}

pub same_eq : (xs ys : Bytes) → same xs ys ≡ true → xs ≡ ys
unfolding same
same_eq [] [] e = refl
same_eq [] (y ∷ ys) e = let z : ◌≡◌ {A = ℕ} 0 1 = cc in let o : ⊥ = omega arith in absurd o
same_eq (x ∷ xs) [] e = let z : ◌≡◌ {A = ℕ} 0 1 = cc in let o : ⊥ = omega arith in absurd o
same_eq (x ∷ xs) (y ∷ ys) e =
    let b : (eqb x y ≡ true) × (same xs ys ≡ true) = both (eqb x y) (same xs ys) e in
    ap₂ (λ (h : ℕ) (t : Bytes). h ∷ t) (eqb-true x y b.0) (same_eq xs ys b.1)

pub same_self : (xs : Bytes) → same xs xs ≡ true
unfolding same
same_self [] = refl
same_self (x ∷ xs) = rw (eq-eqb x x refl) (same_self xs)

-- ---- one byte more

and_true : (a : Bool) → (a && true) ≡ a
and_true true = refl
and_true false = refl

and_assoc : (a b c : Bool) → ((a && b) && c) ≡ (a && (b && c))
and_assoc true b c = refl
and_assoc false b c = refl

same_next : (xs ys : Bytes) (i : ℕ) → i < length xs → i < length ys
    → same (take (suc i) xs) (take (suc i) ys) ≡ (same (take i xs) (take i ys) && eqb (get_or xs i 0) (get_or ys i 0))
unfolding same
same_next [] ys i h g = let z : ⊥ = omega arith in absurd z
same_next (x ∷ xs) [] i h g = let z : ⊥ = omega arith in absurd z
same_next (x ∷ xs) (y ∷ ys) zero h g = and_true (eqb x y)
same_next (x ∷ xs) (y ∷ ys) (suc i) h g =
    ap (λ (b : Bool). eqb x y && b) (same_next xs ys i (omega arith) (omega arith))
    ∙ sym (and_assoc (eqb x y) (same (take i xs) (take i ys)) (eqb (get_or xs i 0) (get_or ys i 0)))

or_none : (a b : ℕ) → eqb (bit_or a b) 0 ≡ (eqb a 0 && eqb b 0)
or_none a b = go (eqb a 0) refl (eqb b 0) refl
  where
    go : (s : Bool) → eqb a 0 ≡ s → (t : Bool) → eqb b 0 ≡ t → eqb (bit_or a b) 0 ≡ (eqb a 0 && eqb b 0)
    go true e true f =
        let z : bit_or a b ≡ 0 = ap₂ bit_or (eqb-true a 0 e) (eqb-true b 0 f) in
        rw (e, f) (eq-eqb (bit_or a b) 0 z)
    go true e false f = rw (e, f) (ne_eqb (bit_or a b) 0 (λ z. eqb-false b 0 f (omega (arith, or_add_and a b, and_le_l a b, z))))
    go false e t f = rw e (ne_eqb (bit_or a b) 0 (λ z. eqb-false a 0 e (omega (arith, or_add_and a b, and_le_r a b, z))))

xor_none : (a b : ℕ) → eqb (bit_xor a b) 0 ≡ eqb a b
xor_none a b = go (eqb a b) refl
  where
    go : (t : Bool) → eqb a b ≡ t → eqb (bit_xor a b) 0 ≡ t
    go true e = eq-eqb (bit_xor a b) 0 (ap (λ (c : ℕ). bit_xor a c) (sym (eqb-true a b e)) ∙ xor_self a)
    go false e = ne_eqb (bit_xor a b) 0 (λ z. eqb-false a b e (xor_eq a b z))

-- the differences gathered so far, and those of byte i
pub same_more : (d : ℕ) (xs ys : Bytes) (i : ℕ) → i < length xs → i < length ys → eqb d 0 ≡ same (take i xs) (take i ys)
    → eqb (bit_or d (bit_xor (get_or xs i 0) (get_or ys i 0))) 0 ≡ same (take (i + 1) xs) (take (i + 1) ys)
same_more d xs ys i h g e =
    or_none d (bit_xor (get_or xs i 0) (get_or ys i 0))
    ∙ ap₂ ◌&&◌ e (xor_none (get_or xs i 0) (get_or ys i 0))
    ∙ sym (same_next xs ys i h g)
    ∙ ap (λ (k : ℕ). same (take k xs) (take k ys)) (sym (add-one i))
