-- Rules 5.10 to 5.12: the length and the value of each object.
use Rattle.std.specs.Prelude.{Bool, true, ◌&&◌, ℕ, ◌+◌, ◌-◌, ◌%◌, eqb, leb, get_or}
use Rattle.octets.specs.Bytes.{Bytes}
use Rattle.std.specs.Prelude.{if◌then◌else◌}
use Rattle.field_expected.specs.Wanted.{tag87, tag_8e}
use Rattle.field_expected.specs.declared.Second.{Second}
use Rattle.field_expected.specs.declared.Second.TheVariants.{Le, Status}
use Rattle.field_expected.specs.declared.Wanted.{Wanted}

-- the second object's length
abbrev pub size_of : Second → ℕ
size_of (Le need) = 1
size_of (Status sw1 sw2) = 2

-- '87' has length 1 + E, E a multiple of 16 from 16 up to the limit; '97' one byte, '99' two, '8E' eight
unfoldable pub right_size : Wanted → ℕ → ℕ → Bool
right_size w tag n =
    if eqb tag tag87 then leb 17 n && eqb ((n - 1) % 16) 0 && leb (n - 1) w.limit else
    (if eqb tag tag_8e then eqb n 8 else eqb n (size_of w.second))

-- the second object's value: '00', or the status given
unfoldable pub right_second : Second → Bytes → ℕ → Bool
right_second (Le need) xs at = eqb (get_or xs at 0) 0
right_second (Status sw1 sw2) xs at = eqb (get_or xs at 0) sw1 && eqb (get_or xs (at + 1) 0) sw2

-- the first byte of '87' is '01'
unfoldable pub right_value : Wanted → ℕ → Bytes → ℕ → Bool
right_value w tag xs at =
    if eqb tag tag87 then eqb (get_or xs at 0) 1 else (if eqb tag tag_8e then true else right_second w.second xs at)
