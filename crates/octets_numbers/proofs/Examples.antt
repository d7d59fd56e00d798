-- Numbers and their bytes, computed.
use mathlib.Core.Path.{◌≡◌, refl}
use mathlib.Core.List.{[], ◌∷◌}
use Rattle.octets_numbers.specs.BigEndian.{big_endian, number_from, number_in}

record Examples : Type 0 where
  written : big_endian 4 0x01020304 ≡ 1 ∷ 2 ∷ 3 ∷ 4 ∷ []
  read : number_in (1 ∷ 2 ∷ 3 ∷ 4 ∷ []) ≡ 0x01020304
  too_large : big_endian 2 0x01020304 ≡ 3 ∷ 4 ∷ []
  of_136 : big_endian 2 136 ≡ 0x00 ∷ 0x88 ∷ []
  none : number_in [] ≡ 0

examples : Examples
unfolding big_endian number_in number_from
examples = record { written = refl; read = refl; too_large = refl; of_136 = refl; none = refl }
