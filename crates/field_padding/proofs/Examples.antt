-- Padding that the checker reads itself: on either side of P = 0 and of the last 16 bytes.
use mathlib.Core.Path.{◌≡◌, refl}
use mathlib.Core.List.{[], ◌∷◌, ◌++◌}
use Rattle.octets.specs.Bytes.{zeros}
use Rattle.field_padding.specs.Padding.{padding, marked, mark_before, unpad}
use Rattle.std.specs.Prelude.{Some, None}

record Computed : Type 0 where
  -- '80' alone before a multiple of 16, and a whole block of padding behind one
  of_15 : padding 15 ≡ 0x80 ∷ []
  of_16 : padding 16 ≡ 0x80 ∷ zeros 15
  -- no data
  only_padding : unpad (0x80 ∷ zeros 15) ≡ None
  one_byte : unpad (0x00 ∷ 0x80 ∷ zeros 14) ≡ Some 1
  no_mark : unpad (zeros 16) ≡ None
  other_mark : unpad (zeros 15 ++ 0x81 ∷ []) ≡ None
  -- the mark is the 17th byte from the end, and the 16th
  before_the_last_16 : unpad (zeros 15 ++ 0x80 ∷ zeros 16) ≡ None
  in_the_last_16 : unpad (zeros 16 ++ 0x80 ∷ zeros 15) ≡ Some 16

computed : Computed
unfolding padding marked mark_before unpad
computed =
    record {
      of_15 = refl;
      of_16 = refl;
      only_padding = refl;
      one_byte = refl;
      no_mark = refl;
      other_mark = refl;
      before_the_last_16 = refl;
      in_the_last_16 = refl;
    }
