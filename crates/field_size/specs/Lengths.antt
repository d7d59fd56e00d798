-- Rule 1.4: how long a field is, from the length of its data and whether Le is present.
use Rattle.std.specs.Prelude.{Bool, ℕ, ◌+◌, eqb, length}
use Rattle.std.specs.Prelude.{if◌then◌else◌}
use Rattle.field_padding.specs.Padding.{padded_length}
use Rattle.field_ber_length.specs.Length.{length_field}

-- E for P bytes of data; no data is not encrypted
unfoldable pub ciphertext_length : ℕ → ℕ
ciphertext_length p = if eqb p 0 then 0 else padded_length p

-- '87' with E bytes: the tag, the length field, '01', the bytes
unfoldable pub encrypted_data_length : ℕ → ℕ
encrypted_data_length e = if eqb e 0 then 0 else 2 + length (length_field (e + 1)) + e

-- '97' has 3 bytes and '8E' 10
unfoldable pub command_length : ℕ → Bool → ℕ
command_length p le = encrypted_data_length (ciphertext_length p) + (if le then 3 else 0) + 10

-- '99' has 4 bytes and '8E' 10
unfoldable pub response_length : ℕ → ℕ
response_length p = encrypted_data_length (ciphertext_length p) + 4 + 10
