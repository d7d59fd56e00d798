-- What the bytes before '8E' say, whatever a field has behind them.
use Rattle.std.specs.Prelude.{◌≡◌, Bool, [], ℕ, ◌+◌, ◌-◌, eqb, ltb, length, get_or, take, drop, Option, Some, None}
use Rattle.octets.specs.Bytes.{Bytes}
use Rattle.std.specs.Prelude.{if◌then◌else◌}
use Rattle.field_expected.specs.Wanted.{tag87}
use Rattle.field_ber_length.specs.Length.{read_length}
use Rattle.field_ber_length.specs.declared.LengthField.{LengthField}
use Rattle.field_read.specs.Field.{ciphertext_of, covered_of}
use Rattle.field_expected.specs.declared.Second.TheVariants.{Status}
use Rattle.field_expected.specs.declared.Wanted.{Wanted}
use Rattle.field_read.specs.declared.Objects.{Objects}

-- the encrypted data of an '87' whose length was read: behind tag, length field and indicator byte
unfoldable pub data_behind : Bytes → Option LengthField → Bytes
data_behind xs (Some field) = take (field.length - 1) (drop (1 + field.size + 1) xs)
data_behind xs None = []

unfoldable pub end_behind : Option LengthField → ℕ
end_behind (Some field) = 1 + field.size + field.length
end_behind None = 0

-- the encrypted data, if the first object is '87', and where that object ends
unfoldable pub data_in : Bytes → Bytes
data_in xs = if eqb (get_or xs 0 0) tag87 then data_behind xs (read_length xs 1) else []

unfoldable pub data_end : Bytes → ℕ
data_end xs = if eqb (get_or xs 0 0) tag87 then end_behind (read_length xs 1) else 0

-- whether '97' or '99' stands behind it
unfoldable pub second_in : Bytes → Bool
second_in xs = ltb (data_end xs) (length xs)

-- the status word: the last two bytes
unfoldable pub sw1_in : Bytes → ℕ
sw1_in xs = get_or xs (length xs - 2) 0

unfoldable pub sw2_in : Bytes → ℕ
sw2_in xs = get_or xs (length xs - 1) 0

-- what an accepted field holds is what its bytes before '8E' say
pub record Determined (w : Wanted) (xs : Bytes) (p : Objects) : Type 0 where
  pub encrypted : ciphertext_of xs p ≡ data_in (covered_of xs p)
  pub present : p.second ≡ second_in (covered_of xs p)
  pub status : (sw1 sw2 : ℕ) → w.second ≡ Status sw1 sw2 → (sw1_in (covered_of xs p) ≡ sw1) × (sw2_in (covered_of xs p) ≡ sw2)
