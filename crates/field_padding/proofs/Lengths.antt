-- The lengths of padding and of padded data.
use mathlib.Core.Path.{◌≡◌, ap, ◌∙◌}
use Prim.Native.Nat.{ℕ, suc, ◌-◌, ◌%◌}
use native.Mathlib.Omega.{arith}
use lib.ListN.{length, length-append, length-replicate}
use Rattle.octets.specs.Bytes.{Bytes}
use Rattle.field_padding.specs.Padding.{padding, pad, padded_length}

pub length_padding : (p : ℕ) → length (padding p) ≡ 16 - p % 16
unfolding padding
length_padding p = ap suc (length-replicate (15 - p % 16) 0) ∙ omega arith

pub length_pad : (xs : Bytes) → length (pad xs) ≡ padded_length (length xs)
unfolding pad padded_length
length_pad xs = length-append xs (padding (length xs)) ∙ omega (arith, length_padding (length xs))
