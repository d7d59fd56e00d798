-- BER-TLV length fields of one to three bytes (ISO/IEC 7816-4; rules 5.3 and 5.4).
use Rattle.std.specs.Prelude.{Bool, [], ◌∷◌, ℕ, ◌+◌, ◌*◌, ◌/◌, ◌%◌, eqb, ltb, length, get_or, Option, Some, None}
use Rattle.octets.specs.Bytes.{Bytes}
use Rattle.std.specs.Prelude.{if◌then◌else◌}
use Rattle.field_ber_length.specs.declared.LengthField.{LengthField}

-- the shortest form of n, for n below 65,536: one byte to 127, '81' and a byte to 255, '82' and two bytes above
unfoldable pub length_field : ℕ → Bytes
length_field n =
    if ltb n 128 then n ∷ [] else
    (if ltb n 256 then 0x81 ∷ n ∷ [] else
    (0x82 ∷ n / 256 ∷ n % 256 ∷ []))

-- the length n was read, from a field of that size
abbrev pub found : ℕ → ℕ → Option LengthField
found n size = Some (record { length = n; size = size })

-- the length whose field starts at index at, in any form of one to three bytes, and the field's size;
-- a field that is cut off has no form, nor has '80' alone or one of more than three bytes
unfoldable pub read_length : Bytes → ℕ → Option LengthField
read_length xs at =
    if ltb at (length xs) then
    (if ltb (get_or xs at 0) 128 then found (get_or xs at 0) 1 else
    (if eqb (get_or xs at 0) 0x81 then (if ltb (at + 1) (length xs) then found (get_or xs (at + 1) 0) 2 else None) else
    (if eqb (get_or xs at 0) 0x82 then
    (if ltb (at + 2) (length xs) then found (get_or xs (at + 1) 0 * 256 + get_or xs (at + 2) 0) 3 else None) else None)))
    else None

-- whether a length read from a field of that size stood in its shortest form
unfoldable pub is_shortest : ℕ → ℕ → Bool
is_shortest n size = eqb size (length (length_field n))
