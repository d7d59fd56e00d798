-- The three forms of a length field; and a length that was written is read again, in its shortest form.
use mathlib.Core.Path.{◌≡◌, refl, sym, ap, ap₂, ◌∙◌}
use mathlib.Core.Logic.{◌⊎◌, inl, inr}
use mathlib.Core.Bool.{Bool, true, false}
use mathlib.Core.List.{[], ◌∷◌, ◌++◌}
use Prim.Native.Nat.{ℕ, suc, ◌+◌, ◌-◌, ◌*◌, ◌/◌, ◌%◌, ◌<◌, ◌≤◌}
use native.Mathlib.Nat.{add-zero}
use native.Mathlib.Numerals.{add-one}
use native.Mathlib.Omega.{arith}
use borrow.Author.Tests.{eq-eqb, ne_eqb, lt-ltb, le-ltb, ltb-true, eqb-true}
use lib.Dec.{eqb, ltb, lit≤}
use lib.ListN.{length, get_or, take, drop, length-append}
use lib.Seq.{get_or-append-add, get_or-take, length-take-le, drop-cons}
use Rattle.octets.specs.Bytes.{Bytes, IsBytes}
use Rattle.std.specs.Prelude.{if◌then◌else◌}
use Rattle.octets.proofs.ByteStrings.{by_test, byte_at}
use Rattle.field_ber_length.specs.Length.{length_field, found, read_length, is_shortest}
use Rattle.std.specs.Prelude.{Option, Some, None, slice_range}
use Rattle.std.proofs.lemmas.List.{get_or-drop}
use Rattle.field_ber_length.specs.declared.LengthField.{LengthField}

module _ (n : ℕ) where
  pub one_byte : n < 128 → length_field n ≡ n ∷ []
  unfolding length_field
  one_byte h = simp (lt-ltb n 128 h)

  pub two_bytes : 128 ≤ n → n < 256 → length_field n ≡ 0x81 ∷ n ∷ []
  unfolding length_field
  two_bytes g h = simp (le-ltb n 128 g, lt-ltb n 256 h)

  pub three_bytes : 256 ≤ n → length_field n ≡ 0x82 ∷ n / 256 ∷ n % 256 ∷ []
  unfolding length_field
  three_bytes h =
      let g : 128 ≤ n = omega arith in simp (le-ltb n 128 g, le-ltb n 256 h)

pub written_shortest : (n : ℕ) → is_shortest n (length (length_field n)) ≡ true
unfolding is_shortest
written_shortest n = eq-eqb (length (length_field n)) (length (length_field n)) refl

-- ---- the forms, read where they stand

module _ (xs : Bytes) (at : ℕ) where
  pub read_one : at < length xs → get_or xs at 0 < 128 → read_length xs at ≡ found (get_or xs at 0) 1
  unfolding read_length
  read_one h g = simp (lt-ltb at (length xs) h, lt-ltb (get_or xs at 0) 128 g)

  pub read_two : at + 1 < length xs → get_or xs at 0 ≡ 0x81 → read_length xs at ≡ found (get_or xs (at + 1) 0) 2
  unfolding read_length
  read_two h e =
      let l : at < length xs = omega arith in
      let b : 128 ≤ get_or xs at 0 = omega (arith, e) in
      simp (lt-ltb at (length xs) l, le-ltb (get_or xs at 0) 128 b, eq-eqb (get_or xs at 0) 0x81 e, lt-ltb (at + 1) (length xs) h)

  pub read_three : at + 2 < length xs → get_or xs at 0 ≡ 0x82
      → read_length xs at ≡ found (get_or xs (at + 1) 0 * 256 + get_or xs (at + 2) 0) 3
  unfolding read_length
  read_three h e =
      let l : at < length xs = omega arith in
      let b : 128 ≤ get_or xs at 0 = omega (arith, e) in
      let o : get_or xs at 0 ≡ 0x81 → ⊥ = λ q. omega (arith, e, q) in
      simp (lt-ltb at (length xs) l, le-ltb (get_or xs at 0) 128 b, ne_eqb (get_or xs at 0) 0x81 o, eq-eqb (get_or xs at 0) 0x82 e, lt-ltb (at + 2) (length xs) h)

-- ---- the forms, read from the bytes ys that stand from index at on

module _ (xs ys : Bytes) (at : ℕ) (e : ys ≡ slice_range xs at (length xs)) (l : length ys + at ≡ length xs) where
  there : (i : ℕ) → i < length ys → get_or ys i 0 ≡ get_or xs (at + i) 0
  there i h =
      ap (λ (zs : Bytes). get_or zs i 0) e
      ∙ get_or-take (length xs - at) (drop at xs) i 0 (omega arith)
      ∙ get_or-drop at xs i 0

  first : 1 ≤ length ys → get_or ys 0 0 ≡ get_or xs at 0
  first h = there 0 h ∙ ap (λ (i : ℕ). get_or xs i 0) (add-zero at)

  pub rest_none : length ys < 1 → None ≡ read_length xs at
  unfolding read_length
  rest_none h = let g : length xs ≤ at = omega arith in simp (le-ltb at (length xs) g)

  pub rest_one : 1 ≤ length ys → get_or ys 0 0 < 128 → found (get_or ys 0 0) 1 ≡ read_length xs at
  rest_one h g =
      ap (λ (b : ℕ). found b 1) (first h) ∙ sym (read_one xs at (omega arith) (omega (arith, first h)))

  pub rest_two : 2 ≤ length ys → get_or ys 0 0 ≡ 0x81 → found (get_or ys 1 0) 2 ≡ read_length xs at
  rest_two h g =
      ap (λ (b : ℕ). found b 2) (there 1 (omega arith)) ∙ sym (read_two xs at (omega arith) (sym (first (omega arith)) ∙ g))

  pub rest_three : 3 ≤ length ys → get_or ys 0 0 ≡ 0x82 → found (get_or ys 1 0 * 256 + get_or ys 2 0) 3 ≡ read_length xs at
  rest_three h g =
      ap₂ (λ (a b : ℕ). found (a * 256 + b) 3) (there 1 (omega arith)) (there 2 (omega arith))
      ∙ sym (read_three xs at (omega arith) (sym (first (omega arith)) ∙ g))

  -- no form: a first byte of none, or a field that is cut off
  pub rest_bad : 1 ≤ length ys → 128 ≤ get_or ys 0 0 → (get_or ys 0 0 ≡ 0x81 → length ys < 2) → (get_or ys 0 0 ≡ 0x82 → length ys < 3)
      → None ≡ read_length xs at
  unfolding read_length
  rest_bad h g two three =
      let f : get_or ys 0 0 ≡ get_or xs at 0 = first h in
      go f (eqb (get_or xs at 0) 0x81) refl (eqb (get_or xs at 0) 0x82) refl
    where
      go : get_or ys 0 0 ≡ get_or xs at 0 → (s : Bool) → eqb (get_or xs at 0) 0x81 ≡ s → (t : Bool) → eqb (get_or xs at 0) 0x82 ≡ t
          → None ≡ read_length xs at
      go f true a t b =
          let short : length xs ≤ at + 1 = omega (arith, two (f ∙ eqb-true (get_or xs at 0) 0x81 a)) in
          simp (lt-ltb at (length xs) (omega arith), le-ltb (get_or xs at 0) 128 (omega (arith, f)), a, le-ltb (at + 1) (length xs) short)
      go f false a true b =
          let short : length xs ≤ at + 2 = omega (arith, three (f ∙ eqb-true (get_or xs at 0) 0x82 b)) in
          simp (lt-ltb at (length xs) (omega arith), le-ltb (get_or xs at 0) 128 (omega (arith, f)), a, b, le-ltb (at + 2) (length xs) short)
      go f false a false b =
          simp (lt-ltb at (length xs) (omega arith), le-ltb (get_or xs at 0) 128 (omega (arith, f)), a, b)

-- ---- what was written

module _ (front back : Bytes) (n : ℕ) where
  at_front : (f : Bytes) (i : ℕ) → get_or (front ++ (f ++ back)) (length front + i) 0 ≡ get_or (f ++ back) i 0
  at_front f i = get_or-append-add front (f ++ back) i 0

  size : (f : Bytes) → length (front ++ (f ++ back)) ≡ length front + (length f + length back)
  size f = simp length-append

  pub read_written : n < 65536 → read_length (front ++ (length_field n ++ back)) (length front) ≡ found n (length (length_field n))
  read_written h = by_test n 128 small (λ g. by_test n 256 (middle g) large)
    where
      first : (f : Bytes) → get_or (front ++ (f ++ back)) (length front) 0 ≡ get_or (f ++ back) 0 0
      first f = ap (λ (i : ℕ). get_or (front ++ (f ++ back)) i 0) (let e : length front ≡ length front + 0 = omega arith in e) ∙ at_front f 0

      small : n < 128 → read_length (front ++ (length_field n ++ back)) (length front) ≡ found n (length (length_field n))
      small g =
          let f : Bytes = n ∷ [] in
          let xs : Bytes = front ++ (f ++ back) in
          let e : get_or xs (length front) 0 ≡ n = first f in
          rw (one_byte n g) (read_one xs (length front) (omega (arith, size f)) (omega (arith, e)) ∙ ap (λ (b : ℕ). found b 1) e)

      middle : 128 ≤ n → n < 256 → read_length (front ++ (length_field n ++ back)) (length front) ≡ found n (length (length_field n))
      middle g k =
          let f : Bytes = 0x81 ∷ n ∷ [] in
          let xs : Bytes = front ++ (f ++ back) in
          rw (two_bytes n g k)
          (read_two xs (length front) (omega (arith, size f)) (first f) ∙ ap (λ (b : ℕ). found b 2) (at_front f 1))

      large : 256 ≤ n → read_length (front ++ (length_field n ++ back)) (length front) ≡ found n (length (length_field n))
      large g =
          let f : Bytes = 0x82 ∷ n / 256 ∷ n % 256 ∷ [] in
          let xs : Bytes = front ++ (f ++ back) in
          let e : n / 256 * 256 + n % 256 ≡ n = omega arith in
          rw (three_bytes n g)
          (read_three xs (length front) (omega (arith, size f)) (first f)
          ∙ ap₂ (λ (a b : ℕ). found (a * 256 + b) 3) (at_front f 1) (at_front f 2)
          ∙ ap (λ (m : ℕ). found m 3) e)

-- ---- the form that was read

no_form : {n size : ℕ} {P : Type 0} → None ≡ found n size → P
no_form e = let z : ◌≡◌ {A = ℕ} 0 1 = cc in let o : ⊥ = omega arith in absurd o

-- the length and the size of a field that was read
length_of : Option LengthField → ℕ
length_of None = 0
length_of (Some field) = field.length

size_of : Option LengthField → ℕ
size_of None = 0
size_of (Some field) = field.size

abbrev OneByte : Bytes → ℕ → ℕ → ℕ → Type 0
OneByte xs at n size = (at < length xs) × ((get_or xs at 0 < 128) × ((get_or xs at 0 ≡ n) × (1 ≡ size)))

abbrev TwoBytes : Bytes → ℕ → ℕ → ℕ → Type 0
TwoBytes xs at n size = (at + 1 < length xs) × ((get_or xs at 0 ≡ 0x81) × ((get_or xs (at + 1) 0 ≡ n) × (2 ≡ size)))

abbrev ThreeBytes : Bytes → ℕ → ℕ → ℕ → Type 0
ThreeBytes xs at n size = (at + 2 < length xs) × ((get_or xs at 0 ≡ 0x82) × ((get_or xs (at + 1) 0 * 256 + get_or xs (at + 2) 0 ≡ n) × (3 ≡ size)))

forms : (xs : Bytes) (at n size : ℕ) → read_length xs at ≡ found n size
    → OneByte xs at n size ⊎ (TwoBytes xs at n size ⊎ ThreeBytes xs at n size)
unfolding read_length length_of size_of
forms xs at n size e =
    by (ltb at (length xs)) refl (ltb (get_or xs at 0) 128) refl (eqb (get_or xs at 0) 0x81) refl (ltb (at + 1) (length xs)) refl
    (eqb (get_or xs at 0) 0x82) refl (ltb (at + 2) (length xs)) refl e
  where
    by : (s : Bool) → ltb at (length xs) ≡ s → (t : Bool) → ltb (get_or xs at 0) 128 ≡ t → (u : Bool) → eqb (get_or xs at 0) 0x81 ≡ u
        → (v : Bool) → ltb (at + 1) (length xs) ≡ v → (x : Bool) → eqb (get_or xs at 0) 0x82 ≡ x → (y : Bool) → ltb (at + 2) (length xs) ≡ y
        → (if s then (if t then found (get_or xs at 0) 1 else (if u then (if v then found (get_or xs (at + 1) 0) 2 else None) else
        (if x then (if y then found (get_or xs (at + 1) 0 * 256 + get_or xs (at + 2) 0) 3 else None) else None))) else None)
        ≡ found n size → OneByte xs at n size ⊎ (TwoBytes xs at n size ⊎ ThreeBytes xs at n size)
    by false p t o u a v q x b y r f = no_form f
    by true p true o u a v q x b y r f = inl (ltb-true at (length xs) p, (ltb-true (get_or xs at 0) 128 o, (ap length_of f, ap size_of f)))
    by true p false o true a true q x b y r f = inr (inl (ltb-true (at + 1) (length xs) q, (eqb-true (get_or xs at 0) 0x81 a, (ap length_of f, ap size_of f))))
    by true p false o true a false q x b y r f = no_form f
    by true p false o false a v q true b true r f = inr (inr (ltb-true (at + 2) (length xs) r, (eqb-true (get_or xs at 0) 0x82 b, (ap length_of f, ap size_of f))))
    by true p false o false a v q true b false r f = no_form f
    by true p false o false a v q false b y r f = no_form f

module _ (xs : Bytes) (at n size : ℕ) (e : read_length xs at ≡ found n size) where
  -- it stands within the string
  pub read_within : at + size ≤ length xs
  read_within = go (forms xs at n size e)
    where
      go : OneByte xs at n size ⊎ (TwoBytes xs at n size ⊎ ThreeBytes xs at n size) → at + size ≤ length xs
      go (inl (h, (b, (v, z)))) = omega arith
      go (inr (inl (h, (b, (v, z))))) = omega arith
      go (inr (inr (h, (b, (v, z))))) = omega arith

  -- and is read again wherever the string is cut behind it
  pub read_prefix : (m : ℕ) → at + size ≤ m → m ≤ length xs → read_length (take m xs) at ≡ found n size
  read_prefix m h l = go (forms xs at n size e)
    where
      same : (i : ℕ) → i < m → get_or (take m xs) i 0 ≡ get_or xs i 0
      same i k = get_or-take m xs i 0 k

      go : OneByte xs at n size ⊎ (TwoBytes xs at n size ⊎ ThreeBytes xs at n size) → read_length (take m xs) at ≡ found n size
      go (inl (g, (b, (v, z)))) =
          let q : get_or (take m xs) at 0 ≡ get_or xs at 0 = same at (omega arith) in
          read_one (take m xs) at (omega (arith, length-take-le m xs l)) (omega (arith, q)) ∙ ap₂ found (q ∙ v) z
      go (inr (inl (g, (b, (v, z))))) =
          read_two (take m xs) at (omega (arith, length-take-le m xs l)) (same at (omega arith) ∙ b)
          ∙ ap₂ found (same (at + 1) (omega arith) ∙ v) z
      go (inr (inr (g, (b, (v, z))))) =
          read_three (take m xs) at (omega (arith, length-take-le m xs l)) (same at (omega arith) ∙ b)
          ∙ ap₂ found (ap₂ (λ (x y : ℕ). x * 256 + y) (same (at + 1) (omega arith)) (same (at + 2) (omega arith)) ∙ v) z

  -- one in the shortest form is the field that is written
  pub read_shortest : IsBytes xs → is_shortest n size ≡ true → take size (drop at xs) ≡ length_field n
  unfolding is_shortest
  read_shortest bytes s = go (forms xs at n size e)
    where
      long : size ≡ length (length_field n)
      long = eqb-true size (length (length_field n)) s

      too_short : {P : Type 0} (k : ℕ) → length (length_field n) ≡ k → k < size → P
      too_short k a h = let z : ⊥ = omega (arith, long, a) in absurd z

      one_more : (k i : ℕ) → i < length xs → take (suc k) (drop i xs) ≡ get_or xs i 0 ∷ take k (drop (suc i) xs)
      one_more k i h = ap (take (suc k)) (drop-cons xs i 0 h)

      go : OneByte xs at n size ⊎ (TwoBytes xs at n size ⊎ ThreeBytes xs at n size) → take size (drop at xs) ≡ length_field n
      go (inl (h, (b, (v, z)))) =
          let q : n < 128 = omega (arith, v) in
          rw (← z, one_byte n q, one_more 0 at h, v)
      go (inr (inl (h, (b, (v, z))))) =
          let l : 128 ≤ n = by_test n 128 (λ q. too_short 1 (ap length (one_byte n q)) (omega (arith, z))) (λ q. q) in
          let m : n < 256 = omega (arith, v, byte_at xs bytes (at + 1)) in
          ap (λ (k : ℕ). take k (drop at xs)) (sym z)
          ∙ one_more 1 at (omega arith)
          ∙ ap₂ (λ (x : ℕ) (l : Bytes). x ∷ l) b (one_more 0 (suc at) (omega arith) ∙ ap (λ (x : ℕ). x ∷ []) (ap (λ (i : ℕ). get_or xs i 0) (sym (add-one at)) ∙ v))
          ∙ sym (two_bytes n l m)
      go (inr (inr (h, (b, (v, z))))) =
          let l : 256 ≤ n = by_test n 256 (λ q. by_test n 128 (λ r. too_short 1 (ap length (one_byte n r)) (omega (arith, z))) (λ r. too_short 2 (ap length (two_bytes n r q)) (omega (arith, z)))) (λ q. q) in
          let y : get_or xs (suc (suc at)) 0 < 256 = byte_at xs bytes (suc (suc at)) in
          let v' : get_or xs (suc at) 0 * 256 + get_or xs (suc (suc at)) 0 ≡ n = ap₂ (λ (i j : ℕ). get_or xs i 0 * 256 + get_or xs j 0) (sym (add-one at)) (let a : suc (suc at) ≡ at + 2 = omega arith in a) ∙ v in
          let hi : get_or xs (suc at) 0 ≡ n / 256 = omega (arith, v', y) in
          let lo : get_or xs (suc (suc at)) 0 ≡ n % 256 = omega (arith, v', y) in
          ap (λ (k : ℕ). take k (drop at xs)) (sym z)
          ∙ one_more 2 at (omega arith)
          ∙ ap₂ (λ (x : ℕ) (l : Bytes). x ∷ l) b
          (one_more 1 (suc at) (omega arith)
          ∙ ap₂ (λ (x : ℕ) (l : Bytes). x ∷ l) hi (one_more 0 (suc (suc at)) (omega arith) ∙ ap (λ (x : ℕ). x ∷ []) lo))
          ∙ sym (three_bytes n l)

pub length_field_most : (n : ℕ) → length (length_field n) ≤ 3
unfolding length_field
length_field_most n = go (ltb n 128) (ltb n 256)
  where
    go : (s t : Bool) → length (if s then n ∷ [] else (if t then 0x81 ∷ n ∷ [] else (0x82 ∷ n / 256 ∷ n % 256 ∷ []))) ≤ 3
    go true t = lit≤ tt
    go false true = lit≤ tt
    go false false = lit≤ tt
