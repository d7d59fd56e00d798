-- SP 800-73-4 Part 2, 4.2: the data objects of a field, in the side's order.
use Rattle.std.specs.Prelude.{Bool, [], ◌∷◌, ◌++◌, ℕ, eqb, length}
use Rattle.octets.specs.Bytes.{Bytes}
use Rattle.std.specs.Prelude.{if◌then◌else◌}
use Rattle.field_ber_length.specs.Length.{length_field}
use Rattle.field_expected.specs.Wanted.{tag87, tag97, tag99, tag_8e}

-- tag, length, value
unfoldable pub object : ℕ → Bytes → Bytes
object tag value = tag ∷ length_field (length value) ++ value

-- '87': the padding-content indicator byte '01' and the encrypted data; no data makes no object
unfoldable pub encrypted_data : Bytes → Bytes
encrypted_data ciphertext = if eqb (length ciphertext) 0 then [] else object tag87 (0x01 ∷ ciphertext)

-- '97': Le, where it is present, always '00'
unfoldable pub le_object : Bool → Bytes
le_object le = if le then object tag97 (0x00 ∷ []) else []

-- '99': the status word
unfoldable pub status_word : ℕ → ℕ → Bytes
status_word sw1 sw2 = object tag99 (sw1 ∷ sw2 ∷ [])

-- '8E': the MAC
unfoldable pub mac_object : Bytes → Bytes
mac_object mac = object tag_8e mac

-- the objects that the MAC covers
unfoldable pub command_objects : Bytes → Bool → Bytes
command_objects ciphertext le = encrypted_data ciphertext ++ le_object le

unfoldable pub response_objects : Bytes → ℕ → ℕ → Bytes
response_objects ciphertext sw1 sw2 = encrypted_data ciphertext ++ status_word sw1 sw2

-- whole fields
unfoldable pub command_field : Bytes → Bool → Bytes → Bytes
command_field ciphertext le mac = command_objects ciphertext le ++ mac_object mac

unfoldable pub response_field : Bytes → ℕ → ℕ → Bytes → Bytes
response_field ciphertext sw1 sw2 mac = response_objects ciphertext sw1 sw2 ++ mac_object mac
