-- What a buffer holds after its first n bytes, whole blocks, were changed in place.
use mathlib.Core.Path.{◌≡◌, sym, ap, ◌∙◌}
use mathlib.Core.List.{◌++◌}
use Prim.Native.Nat.{ℕ, ◌%◌, ◌≤◌}
use borrow.Author.Tests.{eq-eqb}
use lib.ListN.{length, take, drop}
use lib.Seq.{length-take-le}
use Rattle.octets.specs.Bytes.{Bytes}
use Rattle.octets.specs.Write.{over}
use Rattle.mode_cbc.specs.Whole.{if_whole}

module _ (f : Bytes → Bytes) (xs ys : Bytes) (n : ℕ) (m : n % 16 ≡ 0) (h : n ≤ length xs) (e : ys ≡ if_whole f (take n xs)) (l : length ys ≡ n) where
  changed : ys ≡ f (take n xs)
  unfolding if_whole
  changed =
      let t : length (take n xs) % 16 ≡ 0 = ap (λ (k : ℕ). k % 16) (length-take-le n xs h) ∙ m in
      e ∙ rw (eq-eqb (length (take n xs) % 16) 0 t)

  pub length_changed : length (f (take n xs)) ≡ n
  length_changed = sym (ap length changed) ∙ l

  pub start_changed : ys ++ drop n xs ≡ over xs (f (take n xs))
  unfolding over
  start_changed =
      ap (λ (zs : Bytes). zs ++ drop n xs) changed ∙ ap (λ (i : ℕ). f (take n xs) ++ drop i xs) (sym length_changed)
