-- The numbers below a bound that pass a test, in their order: a computed row lists them all.
use mathlib.Core.Bool.{Bool}
use mathlib.Core.List.{List, [], ◌∷◌, ◌++◌}
use Prim.Native.Nat.{ℕ, zero, suc}
use Rattle.std.specs.Prelude.{if◌then◌else◌}

unfoldable pub chosen : (ℕ → Bool) → ℕ → List ℕ
chosen test zero = []
chosen test (suc n) = chosen test n ++ (if test n then n ∷ [] else [])
