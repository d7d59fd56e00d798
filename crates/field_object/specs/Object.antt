-- Rule 5.5: one object of a field, read at an index.
use Rattle.std.specs.Prelude.{Bool, ℕ, ◌+◌, leb, length, get_or, Option, Some, None, Result, Ok, Err}
use Rattle.octets.specs.Bytes.{Bytes}
use Rattle.std.specs.Prelude.{if◌then◌else◌}
use Rattle.field_ber_length.specs.Length.{read_length, is_shortest}
use Rattle.field_ber_length.specs.declared.LengthField.{LengthField}
use Rattle.field_expected.specs.Wanted.{allowed}
use Rattle.field_object.specs.Values.{right_size, right_value}
use Rattle.field_expected.specs.declared.Wanted.{Wanted}
use Rattle.field_object.specs.declared.Rule.{Rule}
use Rattle.field_object.specs.declared.Rule.TheVariants.{Tag, LengthForm, LengthSize, BytesLeft, Value}
use Rattle.field_object.specs.declared.Breach.{Breach}
use Rattle.field_object.specs.declared.DataObject.{DataObject}

infixr 2 require◌else◌⨾◌
abbrev pub breach : Rule → ℕ → ℕ → Breach
breach rule tag offset = record { rule = rule; tag = tag; offset = offset }

unfoldable pub require◌else◌⨾◌ : Bool → Result DataObject Breach → Result DataObject Breach → Result DataObject Breach
require ok else bad ⨾ good = if ok then good else bad

-- the object that starts at index start and whose length field starts at index at: form, size, bytes left, value, in that order
unfoldable pub with_length : Wanted → Bytes → ℕ → ℕ → ℕ → Option LengthField → Result DataObject Breach
with_length w xs tag start at None = Err (breach LengthForm tag at)
with_length w xs tag start at (Some field) =
    require is_shortest field.length field.size else Err (breach LengthForm tag at) ⨾
    require right_size w tag field.length else Err (breach LengthSize tag at) ⨾
    require leb (at + field.size + field.length) (length xs) else Err (breach BytesLeft tag at) ⨾
    require right_value w tag xs (at + field.size) else Err (breach Value tag (at + field.size)) ⨾
    Ok (record { tag = tag; start = start; value = at + field.size; len = field.length; next = at + field.size + field.length })

-- the object at index at, after one at place r
unfoldable pub read_object : Wanted → ℕ → Bytes → ℕ → Result DataObject Breach
read_object w r xs at =
    require allowed w r (get_or xs at 0) else Err (breach Tag (get_or xs at 0) at) ⨾
    with_length w xs (get_or xs at 0) at (at + 1) (read_length xs (at + 1))
