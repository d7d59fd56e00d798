-- The walk, object by object: the turns of `read_field`'s loop.
use mathlib.Core.Path.{◌≡◌, refl}
use Prim.Native.Nat.{ℕ, zero, suc, ◌-◌, ◌<◌, ◌≤◌}
use native.Mathlib.Omega.{arith}
use borrow.Author.Tests.{lt-ltb, le-ltb}
use lib.ListN.{length}
use Rattle.octets.specs.Bytes.{Bytes}
use Rattle.field_expected.specs.Wanted.{rank}
use Rattle.field_object.specs.Object.{read_object}
use Rattle.field_read.specs.Field.{noted, ended, on_object, walk}
use Rattle.field_expected.specs.declared.Wanted.{Wanted}
use Rattle.field_object.specs.declared.Breach.{Breach}
use Rattle.field_object.specs.declared.DataObject.{DataObject}
use Rattle.std.specs.Prelude.{Ok, Err}
use Rattle.field_read.specs.declared.Objects.{Objects}
use Rattle.field_read.specs.declared.FieldError.TheVariants.{Malformed}

module _ (w : Wanted) (xs : Bytes) (o : Objects) (r at : ℕ) where
  pub walk_end : (k : ℕ) → length xs ≤ at → walk k w xs o r at ≡ ended w o r (length xs)
  unfolding walk
  walk_end zero h = refl
  walk_end (suc k) h = simp (le-ltb at (length xs) h)

  pub walk_object : (k : ℕ) (d : DataObject) → 0 < k → at < length xs → read_object w r xs at ≡ Ok d
      → walk k w xs o r at ≡ walk (k - 1) w xs (noted o d) (rank w.second d.tag) d.next
  unfolding walk on_object
  walk_object zero d p h e = let z : ⊥ = omega arith in absurd z
  walk_object (suc k) d p h e =
      let q : suc k - 1 ≡ k = omega arith in rw (lt-ltb at (length xs) h, e, q)

  pub walk_breach : (k : ℕ) (b : Breach) → 0 < k → at < length xs → read_object w r xs at ≡ Err b
      → walk k w xs o r at ≡ Err (Malformed b)
  unfolding walk on_object
  walk_breach zero b p h e = let z : ⊥ = omega arith in absurd z
  walk_breach (suc k) b p h e = rw (lt-ltb at (length xs) h, e)
