-- The size of a fragment that is asked for is 1 to 255 bytes, and what a fragment holds.
use mathlib.Core.Path.{◌≡◌, refl}
use mathlib.Core.Bool.{Bool, true, false}
use Prim.Native.Nat.{ℕ, ◌≤◌, ◌<◌}
use native.Mathlib.Omega.{arith}
use borrow.Author.Tests.{eqb-false}
use lib.Dec.{eqb}
use Rattle.std.specs.Prelude.{if◌then◌else◌}
use Rattle.chain_command.specs.Fragment.{default_fragment, fragment_size}

-- 1 to 255
pub record Sized (p : ℕ) : Type 0 where
  pub positive : 0 < p
  pub small : p ≤ 255

pub sized : (p : ℕ) → p ≤ 255 → Sized (fragment_size p)
unfolding fragment_size
sized p h = go (eqb p 0) refl
  where
    go : (zero : Bool) → eqb p 0 ≡ zero → Sized (if zero then default_fragment else p)
    go true e = record { positive = omega arith; small = omega arith }
    go false e = record { positive = let ne = eqb-false p 0 e in omega (arith, ne); small = h }
