-- Rule 5.5: a whole field, read from left to right.
use Rattle.std.specs.Prelude.{true, false, ℕ, zero, suc, ◌+◌, ◌-◌, eqb, ltb, length, take, drop, Result, Ok, Err}
use Rattle.octets.specs.Bytes.{Bytes}
use Rattle.std.specs.Prelude.{if◌then◌else◌}
use Rattle.field_expected.specs.Wanted.{tag87, tag_8e, lacks, tag_of, need_of, rank}
use Rattle.field_object.specs.Object.{read_object}
use Rattle.field_expected.specs.declared.Wanted.{Wanted}
use Rattle.field_object.specs.declared.DataObject.{DataObject}
use Rattle.field_object.specs.declared.Breach.{Breach}
use Rattle.field_read.specs.declared.Objects.{Objects}
use Rattle.field_read.specs.declared.FieldError.{FieldError}
use Rattle.field_read.specs.declared.FieldError.TheVariants.{Malformed, Missing}

-- no object yet
abbrev pub none : Objects
none = record { ciphertext = 0; ciphertext_len = 0; second = false; mac_start = 0; mac = 0 }

-- one object more
unfoldable pub noted : Objects → DataObject → Objects
noted o d =
    if eqb d.tag tag87 then
    record { ciphertext = d.value + 1; ciphertext_len = d.len - 1; second = o.second; mac_start = o.mac_start; mac = o.mac } else
    (if eqb d.tag tag_8e then
    record { ciphertext = o.ciphertext; ciphertext_len = o.ciphertext_len; second = o.second; mac_start = d.start; mac = d.value } else
    record { ciphertext = o.ciphertext; ciphertext_len = o.ciphertext_len; second = true; mac_start = o.mac_start; mac = o.mac })

-- at the end, after an object at place r: the first object that must be there and isn't, in the list's order, or the objects
unfoldable pub ended : Wanted → Objects → ℕ → ℕ → Result Objects FieldError
ended w o r end =
    if lacks w.«data» (ltb 0 o.ciphertext_len) then Err (Missing tag87 end) else
    (if lacks (need_of w.second) o.second then Err (Missing (tag_of w.second) end) else
    (if ltb r 3 then Err (Missing tag_8e end) else Ok o))

-- what an object leads to, by the walk from it on
unfoldable pub on_object : Result DataObject Breach → (DataObject → Result Objects FieldError) → Result Objects FieldError
on_object (Ok d) walk = walk d
on_object (Err b) walk = Err (Malformed b)

-- the walk from index at on, after an object at place r, with at most k objects to read
unfoldable pub walk : ℕ → Wanted → Bytes → Objects → ℕ → ℕ → Result Objects FieldError
walk zero w xs o r at = ended w o r (length xs)
walk (suc k) w xs o r at =
    if ltb at (length xs) then
    on_object (read_object w r xs at) (λ d. walk k w xs (noted o d) (rank w.second d.tag) d.next)
    else ended w o r (length xs)

-- a list has three tags, so the fourth object is a breach at the latest
unfoldable pub read_field : Wanted → Bytes → Result Objects FieldError
read_field w xs = walk 4 w xs none 0 0

-- ---- what an accepted field held

abbrev pub ciphertext_of : Bytes → Objects → Bytes
ciphertext_of xs o = take o.ciphertext_len (drop o.ciphertext xs)

-- the bytes before '8E', as received: those that the MAC covers
abbrev pub covered_of : Bytes → Objects → Bytes
covered_of xs o = take o.mac_start xs

abbrev pub mac_of : Bytes → Objects → Bytes
mac_of xs o = take 8 (drop o.mac xs)
