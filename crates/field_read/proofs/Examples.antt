-- Fields that the checker reads itself: the first breach decides, and 8 waits for the end.
use mathlib.Core.Path.{◌≡◌, refl}
use mathlib.Core.Bool.{true}
use mathlib.Core.List.{[], ◌∷◌, ◌++◌}
use Rattle.octets.specs.Bytes.{Bytes, zeros}
use Rattle.field_ber_length.specs.Length.{read_length, length_field, is_shortest}
use Rattle.field_expected.specs.Wanted.{rank, allowed}
use Rattle.field_object.specs.Values.{right_size, right_second, right_value}
use Rattle.field_object.specs.Object.{breach, require◌else◌⨾◌, with_length, read_object}
use Rattle.field_read.specs.Field.{noted, ended, on_object, walk, read_field}
use Rattle.field_expected.specs.declared.Need.TheVariants.{Must, May}
use Rattle.field_expected.specs.declared.Second.TheVariants.{Le, Status}
use Rattle.field_expected.specs.declared.Wanted.{Wanted}
use Rattle.field_object.specs.declared.Rule.TheVariants.{Tag, Value}
use Rattle.field_read.specs.declared.FieldError.TheVariants.{Malformed, Missing}
use Rattle.std.specs.Prelude.{Ok, Err}

-- GET DATA ('CB') must have data and Le
get_data : Wanted
get_data = record { «data» = Must; limit = 2048; second = Le Must }

-- a response with status word 90 00
response : Wanted
response = record { «data» = May; limit = 16384; second = Status 0x90 0x00 }

data16 : Bytes
data16 = 0x87 ∷ 0x11 ∷ 0x01 ∷ zeros 16

le : Bytes
le = 0x97 ∷ 0x01 ∷ 0x00 ∷ []

mac : Bytes
mac = 0x8E ∷ 0x08 ∷ zeros 8

whole : read_field get_data (data16 ++ le ++ mac)
    ≡ Ok (record { ciphertext = 3; ciphertext_len = 16; second = true; mac_start = 22; mac = 24 })
unfolding read_field walk on_object read_object with_length require◌else◌⨾◌ allowed rank right_size right_value right_second noted ended read_length is_shortest length_field get_data data16 le mac
whole = refl

-- nothing may stand behind '8E'
byte_after_mac : read_field get_data (data16 ++ le ++ mac ++ 0x00 ∷ []) ≡ Err (Malformed (breach Tag 0x00 32))
unfolding read_field walk on_object read_object with_length require◌else◌⨾◌ allowed rank right_size right_value right_second noted ended read_length is_shortest length_field get_data data16 le mac
byte_after_mac = refl

-- a lacking '97' is 8 only where the end is reached
le_missing : read_field get_data (data16 ++ mac) ≡ Err (Missing 0x97 29)
unfolding read_field walk on_object read_object with_length require◌else◌⨾◌ allowed rank right_size right_value right_second noted ended read_length is_shortest length_field get_data data16 mac
le_missing = refl

le_missing_and_more : read_field get_data (data16 ++ mac ++ 0x00 ∷ []) ≡ Err (Malformed (breach Tag 0x00 29))
unfolding read_field walk on_object read_object with_length require◌else◌⨾◌ allowed rank right_size right_value right_second noted ended read_length is_shortest length_field get_data data16 mac
le_missing_and_more = refl

empty_field : read_field get_data [] ≡ Err (Missing 0x87 0)
unfolding read_field walk noted ended get_data
empty_field = refl

-- a '99' that differs is 7 even where '8E' lacks
other_status : read_field response (0x99 ∷ 0x02 ∷ 0x6A ∷ 0x82 ∷ []) ≡ Err (Malformed (breach Value 0x99 2))
unfolding read_field walk on_object read_object with_length require◌else◌⨾◌ allowed rank right_size right_value right_second noted ended read_length is_shortest length_field response
other_status = refl
