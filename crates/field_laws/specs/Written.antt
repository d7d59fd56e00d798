-- A written field and its reading: what the reader must want, and what it then gives.
use Rattle.std.specs.Prelude.{◌≡◌, Bool, true, ℕ, ◌+◌, ◌%◌, ◌<◌, ◌≤◌, ltb, length, Ok}
use Rattle.octets.specs.Bytes.{Bytes}
use Rattle.field_expected.specs.Wanted.{tag87, need_of, suits}
use Rattle.field_object.specs.Values.{right_size}
use Rattle.field_read.specs.Field.{read_field, ciphertext_of, covered_of, mac_of}
use Rattle.field_expected.specs.declared.Wanted.{Wanted}
use Rattle.field_read.specs.declared.Objects.{Objects}

-- encrypted data: nothing, or whole blocks up to a limit
abbrev pub WholeBlocks : ℕ → Bytes → Type 0
WholeBlocks limit c = (length c % 16 ≡ 0) × (length c ≤ limit)

-- the reader wants encrypted data of that length, or none, and a second object, or none
pub record Suits (w : Wanted) (ciphertext : Bytes) (there : Bool) : Type 0 where
  pub encrypted : suits w.«data» (ltb 0 (length ciphertext)) ≡ true
  pub size : 0 < length ciphertext → right_size w tag87 (length ciphertext + 1) ≡ true
  pub short : length ciphertext < 65535
  pub second : suits (need_of w.second) there ≡ true

-- the field is accepted, and its objects are these
pub record ReadsBack (w : Wanted) (field ciphertext : Bytes) (there : Bool) (mac covered : Bytes) : Type 0 where
  pub objects : Objects
  pub accepted : read_field w field ≡ Ok objects
  pub size : objects.ciphertext_len ≡ length ciphertext
  pub encrypted : ciphertext_of field objects ≡ ciphertext
  pub second : objects.second ≡ there
  pub covers : covered_of field objects ≡ covered
  pub tag : mac_of field objects ≡ mac

-- an accepted field: nothing in it is unwanted or lacking, its data is whole blocks up to the limit, and all stands within it
pub record Conforms (w : Wanted) (field : Bytes) (objects : Objects) : Type 0 where
  pub encrypted : suits w.«data» (ltb 0 objects.ciphertext_len) ≡ true
  pub second : suits (need_of w.second) objects.second ≡ true
  pub size : length (ciphertext_of field objects) ≡ objects.ciphertext_len
  pub blocks : WholeBlocks w.limit (ciphertext_of field objects)
  pub data_within : objects.ciphertext + objects.ciphertext_len ≤ length field
  pub covered_within : objects.mac_start ≤ length field
  pub mac_within : objects.mac + 8 ≤ length field
