-- The walk back over zeros, step by step; and what was padded is found again.
use mathlib.Core.Path.{◌≡◌, refl, ap, ap₂, ◌∙◌}
use mathlib.Core.Bool.{Bool, true, false}
use mathlib.Core.List.{◌∷◌, ◌++◌}
use Prim.Native.Nat.{ℕ, zero, suc, ◌+◌, ◌-◌, ◌%◌, ◌<◌, ◌≤◌, min}
use native.Mathlib.Nat.{zero-add}
use native.Mathlib.Omega.{arith}
use borrow.Author.Tests.{eq-eqb, ne_eqb}
use lib.Dec.{eqb}
use lib.ListN.{length, get_or, length-append, get_or-replicate, length-replicate}
use lib.Seq.{get_or-append-add, get_or-append_seam}
use Rattle.octets.specs.Bytes.{Bytes, zeros}
use Rattle.std.specs.Prelude.{if◌then◌else◌}
use Rattle.field_padding.specs.Padding.{padding, pad, marked, mark_before, unpad}
use Rattle.std.specs.Prelude.{Some, None}
use Rattle.field_padding.proofs.Lengths.{length_pad}

pub back_over_zero : (k : ℕ) (xs : Bytes) (n : ℕ) → 0 < k → get_or xs (n - 1) 0 ≡ 0 → mark_before k xs n ≡ mark_before (k - 1) xs (n - 1)
unfolding mark_before
back_over_zero zero xs n h e = let z : ⊥ = omega arith in absurd z
back_over_zero (suc k) xs n h e =
    let q : suc k - 1 ≡ k = omega arith in rw (eq-eqb (get_or xs (n - 1) 0) 0 e, q)

pub back_to_mark : (k : ℕ) (xs : Bytes) (n : ℕ) → 0 < k → (get_or xs (n - 1) 0 ≡ 0 → ⊥)
    → mark_before k xs n ≡ marked (get_or xs (n - 1) 0) (n - 1)
unfolding mark_before
back_to_mark zero xs n h e = let z : ⊥ = omega arith in absurd z
back_to_mark (suc k) xs n h e = rw (ne_eqb (get_or xs (n - 1) 0) 0 e)

pub back_to_none : (k : ℕ) (xs : Bytes) (n : ℕ) → k ≡ 0 → mark_before k xs n ≡ None
unfolding mark_before
back_to_none zero xs n e = refl
back_to_none (suc k) xs n e = let z : ⊥ = omega arith in absurd z

-- ---- the data ends before the padding

pub no_data : {m : ℕ} {P : Type 0} → None ≡ Some m → P
no_data e = let z : ◌≡◌ {A = ℕ} 0 1 = cc in let o : ⊥ = omega arith in absurd o

mark_at : (b n m : ℕ) → marked b n ≡ Some m → m ≡ n
unfolding marked
mark_at b n m e = go (eqb b 0x80) (eqb n 0) e
  where
    go : (p q : Bool) → (if p then (if q then None else Some n) else None) ≡ Some m → m ≡ n
    go true true e = no_data e
    go true false e = cc
    go false q e = no_data e

mark_before_lem : (k : ℕ) (xs : Bytes) (n m : ℕ) → k ≤ n → mark_before k xs n ≡ Some m → m < n
unfolding mark_before
mark_before_lem zero xs n m h e = no_data e
mark_before_lem (suc k) xs n m h e = go (eqb (get_or xs (n - 1) 0) 0) e (mark_before_lem k xs (n - 1) m (omega arith))
  where
    go : (z : Bool) → (if z then mark_before k xs (n - 1) else marked (get_or xs (n - 1) 0) (n - 1)) ≡ Some m
        → (mark_before k xs (n - 1) ≡ Some m → m < n - 1) → m < n
    go true e f = omega (arith, f e)
    go false e f = omega (arith, mark_at (get_or xs (n - 1) 0) (n - 1) m e)

pub data_short : (xs : Bytes) (m : ℕ) → unpad xs ≡ Some m → m < length xs
unfolding unpad
data_short xs m e = mark_before_lem (min 16 (length xs)) xs (length xs) m (omega arith) e

-- ---- what was padded

module _ (ys : Bytes) (z : ℕ) where
  whole : Bytes
  whole = ys ++ 0x80 ∷ zeros z

  mark : get_or whole (length ys) 0 ≡ 0x80
  unfolding whole
  mark = get_or-append_seam ys 0x80 (zeros z) 0

  behind : (i : ℕ) → i < z → get_or whole (length ys + suc i) 0 ≡ 0
  unfolding whole
  behind i h = get_or-append-add ys (0x80 ∷ zeros z) (suc i) 0 ∙ get_or-replicate z i 0 0 h

  back : (m j : ℕ) → m ≤ z → mark_before (m + suc j) whole (length ys + suc m) ≡ marked 0x80 (length ys)
  back zero j h =
      let e : length ys + 1 - 1 ≡ length ys = omega arith in
      let q : get_or whole (length ys + 1 - 1) 0 ≡ 0x80 = ap (λ (i : ℕ). get_or whole i 0) e ∙ mark in
      ap (λ (a : ℕ). mark_before a whole (length ys + 1)) (zero-add (suc j))
      ∙ back_to_mark (suc j) whole (length ys + 1) (omega arith) (λ o. omega (arith, q)) ∙ ap₂ marked q e
  back (suc m) j h =
      let e : length ys + suc (suc m) - 1 ≡ length ys + suc m = omega arith in
      let k : suc m + suc j - 1 ≡ m + suc j = omega arith in
      back_over_zero (suc m + suc j) whole (length ys + suc (suc m)) (omega arith)
      (ap (λ (i : ℕ). get_or whole i 0) e ∙ behind m (omega arith))
      ∙ ap₂ (λ (a b : ℕ). mark_before a whole b) k e
      ∙ back m j (omega arith)

-- the data's length is found again, unless there is no data
pub unpad_pad : (xs : Bytes) → 0 < length xs → unpad (pad xs) ≡ Some (length xs)
unfolding unpad pad padding whole marked
unpad_pad xs h =
    let z : ℕ = 15 - length xs % 16 in
    let size : length (pad xs) ≡ length xs + suc z =
    length-append xs (0x80 ∷ zeros z) ∙ ap (λ (n : ℕ). length xs + suc n) (length-replicate z 0) in
    let k : min 16 (length (pad xs)) ≡ z + suc (15 - z) = omega (arith, length_pad xs) in
    ap₂ (λ (a b : ℕ). mark_before a (pad xs) b) k size
    ∙ back xs z z (15 - z) (omega arith)
    ∙ rw (ne_eqb (length xs) 0 (λ e. omega arith))
