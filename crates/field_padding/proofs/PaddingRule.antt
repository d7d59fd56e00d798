-- `unpad` finds the data's length exactly where the rule of padding holds.
use mathlib.Core.Path.{◌≡◌, refl, sym, ap, ap₂, ◌∙◌}
use mathlib.Core.Bool.{Bool, true, false}
use Prim.Native.Nat.{ℕ, zero, suc, ◌+◌, ◌-◌, ◌<◌, ◌≤◌, min}
use native.Mathlib.Omega.{arith}
use borrow.Author.Tests.{ne_eqb, eqb-true, eqb-false}
use lib.Dec.{eqb}
use lib.ListN.{length, get_or, get_or-eq_default}
use Rattle.octets.specs.Bytes.{Bytes}
use Rattle.std.specs.Prelude.{if◌then◌else◌}
use Rattle.field_padding.specs.Padding.{marked, mark_before, unpad, PaddedAt}
use Rattle.std.specs.Prelude.{Some, None}
use Rattle.field_padding.proofs.Unpadding.{no_data, back_over_zero, back_to_mark}

-- the same of the k bytes before index n
record Found (xs : Bytes) (k n m : ℕ) : Type 0 where
  pub some_data : 0 < m
  pub within : m < n
  pub near : n ≤ m + k
  pub mark : get_or xs m 0 ≡ 0x80
  pub zeros_after : (i : ℕ) → m < i → get_or xs i 0 ≡ 0

marked_rule : (b n m : ℕ) → marked b n ≡ Some m → (b ≡ 0x80) × (n ≡ m) × (0 < m)
unfolding marked
marked_rule b n m e = go (eqb b 0x80) (eqb n 0) refl refl e
  where
    go : (p q : Bool) → eqb b 0x80 ≡ p → eqb n 0 ≡ q → (if p then (if q then None else Some n) else None) ≡ Some m
        → (b ≡ 0x80) × (n ≡ m) × (0 < m)
    go true true s t e = no_data e
    go true false s t e =
        let h : n ≡ m = cc in
        (eqb-true b 0x80 s, h, omega (arith, h, eqb-false n 0 t))
    go false q s t e = no_data e

found : (k : ℕ) (xs : Bytes) (n m : ℕ) → k ≤ n → ((i : ℕ) → n ≤ i → get_or xs i 0 ≡ 0) → mark_before k xs n ≡ Some m → Found xs k n m
unfolding mark_before
found zero xs n m h z e = no_data e
found (suc k) xs n m h z e = go (eqb (get_or xs (n - 1) 0) 0) refl e (found k xs (n - 1) m (omega arith))
  where
    from : get_or xs (n - 1) 0 ≡ 0 → (i : ℕ) → n - 1 ≤ i → get_or xs i 0 ≡ 0
    from q i l = pick (eqb i (n - 1)) refl
      where
        pick : (b : Bool) → eqb i (n - 1) ≡ b → get_or xs i 0 ≡ 0
        pick true s = ap (λ (j : ℕ). get_or xs j 0) (eqb-true i (n - 1) s) ∙ q
        pick false s = z i (omega (arith, eqb-false i (n - 1) s))

    go : (b : Bool) → eqb (get_or xs (n - 1) 0) 0 ≡ b → (if b then mark_before k xs (n - 1) else marked (get_or xs (n - 1) 0) (n - 1)) ≡ Some m
        → (((i : ℕ) → n - 1 ≤ i → get_or xs i 0 ≡ 0) → mark_before k xs (n - 1) ≡ Some m → Found xs k (n - 1) m) → Found xs (suc k) n m
    go true s e f =
        let r = f (from (eqb-true (get_or xs (n - 1) 0) 0 s)) e in
        record { some_data = r.some_data; within = omega (arith, r.within); near = omega (arith, r.near); mark = r.mark; zeros_after = r.zeros_after }
    go false s e f =
        let r = marked_rule (get_or xs (n - 1) 0) (n - 1) m e in
        record {
          some_data = r.2;
          within = omega (arith, r.1, r.2);
          near = omega (arith, r.1);
          mark = ap (λ (j : ℕ). get_or xs j 0) (sym r.1) ∙ r.0;
          zeros_after = λ i l. z i (omega (arith, r.1));
        }

pub unpad_rule : (xs : Bytes) (m : ℕ) → unpad xs ≡ Some m → PaddedAt xs m
unfolding unpad
unpad_rule xs m e =
    let r = found (min 16 (length xs)) xs (length xs) m (omega arith) (λ i h. get_or-eq_default xs 0 h) e in
    record { some_data = omega (arith, r.some_data); within = r.within; in_the_last_16 = omega (arith, r.near); mark = r.mark; zeros_after = r.zeros_after }

-- ---- and where the rule holds, it finds it

finds : (k : ℕ) (xs : Bytes) (n m : ℕ) → Found xs k n m → mark_before k xs n ≡ Some m
unfolding marked
finds zero xs n m r = let z : ⊥ = omega (arith, r.within, r.near) in absurd z
finds (suc k) xs n m r = go (eqb m (n - 1)) refl (finds k xs (n - 1) m)
  where
    stop : marked 0x80 m ≡ Some m
    stop = rw (ne_eqb m 0 (λ o. omega (arith, r.some_data)))

    go : (b : Bool) → eqb m (n - 1) ≡ b → (Found xs k (n - 1) m → mark_before k xs (n - 1) ≡ Some m) → mark_before (suc k) xs n ≡ Some m
    go true s f =
        let h : n - 1 ≡ m = sym (eqb-true m (n - 1) s) in
        let q : get_or xs (n - 1) 0 ≡ 0x80 = ap (λ (j : ℕ). get_or xs j 0) h ∙ r.mark in
        back_to_mark (suc k) xs n (omega arith) (λ o. omega (arith, q)) ∙ ap₂ marked q h ∙ stop
    go false s f =
        let l : m < n - 1 = omega (arith, r.within, eqb-false m (n - 1) s) in
        let e : suc k - 1 ≡ k = omega arith in
        back_over_zero (suc k) xs n (omega arith) (r.zeros_after (n - 1) l)
        ∙ ap (λ (a : ℕ). mark_before a xs (n - 1)) e
        ∙ f (record { some_data = r.some_data; within = l; near = omega (arith, r.near, l); mark = r.mark; zeros_after = r.zeros_after })

pub rule_unpad : (xs : Bytes) (m : ℕ) → PaddedAt xs m → unpad xs ≡ Some m
unfolding unpad
rule_unpad xs m r =
    finds (min 16 (length xs)) xs (length xs) m
    (record { some_data = omega (arith, r.some_data); within = r.within; near = omega (arith, r.in_the_last_16, r.within); mark = r.mark; zeros_after = r.zeros_after })
