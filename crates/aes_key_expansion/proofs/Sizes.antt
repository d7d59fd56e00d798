-- What the key sizes have in common: four to eight words of key, and six rounds more than words.
use mathlib.Core.Path.{◌≡◌, refl}
use Prim.Native.Nat.{◌+◌, ◌≤◌}
use lib.Dec.{lit≤}
use Rattle.aes_key_expansion.specs.KeySizes.{nk, nr}
use Rattle.aes_key_expansion.specs.declared.KeySize.{KeySize}
use Rattle.aes_key_expansion.specs.declared.KeySize.TheVariants.{Aes128, Aes256}

pub record Bounds (size : KeySize) : Type 0 where
  pub least : 4 ≤ nk size
  pub most : nk size ≤ 8
  pub rounds : nr size ≡ nk size + 6

pub bounds : (size : KeySize) → Bounds size
bounds Aes128 = record { least = lit≤ tt; most = lit≤ tt; rounds = refl }
bounds Aes256 = record { least = lit≤ tt; most = lit≤ tt; rounds = refl }
