-- The room that encrypted data and its objects take, from the length of the data.
use mathlib.Core.Path.{◌≡◌, ap, ap₂, ◌∙◌}
use mathlib.Core.Bool.{Bool, true, false}
use Prim.Native.Nat.{ℕ, ◌+◌, ◌*◌, ◌/◌, ◌<◌, ◌≤◌}
use native.Mathlib.Omega.{arith}
use lib.Dec.{eqb}
use lib.ListN.{length}
use Rattle.octets.specs.Bytes.{Bytes}
use Rattle.std.specs.Prelude.{if◌then◌else◌}
use Rattle.octets.specs.Write.{Wrote}
use Rattle.field_padding.specs.Padding.{padded_length}
use Rattle.field_write.specs.Objects.{encrypted_data, command_objects, response_objects}
use Rattle.field_size.specs.Lengths.{ciphertext_length, encrypted_data_length, command_length, response_length}
use Rattle.field_write.proofs.FieldLengths.{length-encrypted_data, length-le_object, length_command_objects, length_response_objects}
use Rattle.session_suite.specs.StoredKeys.{key_in}
use Rattle.session_suite.specs.declared.Suite.{Suite}
use Rattle.message_ciphers.specs.Aes.{encrypt}
use Rattle.message_encrypt.proofs.Encrypted.{length_encrypt}

-- less than m blocks of data take at most m
pub ciphertext_fits : (p m : ℕ) → p < 16 * m → ciphertext_length p ≤ 16 * m
unfolding ciphertext_length padded_length
ciphertext_fits p m h = go (eqb p 0)
  where
    go : (t : Bool) → (if t then 0 else 16 * (p / 16 + 1)) ≤ 16 * m
    go true = omega arith
    go false = omega (arith, h)

-- the objects of data that was encrypted, and 10 bytes for the MAC's
module _ (suite : Suite) (key counter d : Bytes) (size : length key ≡ 32) {held out : Bytes} {n : ℕ} (w : Wrote held 0 (encrypt (key_in suite key) counter d) n out) where
  pub length_written : length (encrypt (key_in suite key) counter d) ≡ ciphertext_length (length d)
  length_written = length_encrypt suite key counter d size

  data_length_lem : length (encrypted_data (encrypt (key_in suite key) counter d)) ≡ encrypted_data_length (ciphertext_length (length d))
  data_length_lem = length-encrypted_data (encrypt (key_in suite key) counter d) ∙ ap encrypted_data_length length_written

  pub command_room : (le : Bool) → length (command_objects (encrypt (key_in suite key) counter d) le) + 10 ≡ command_length (length d) le
  unfolding command_length
  command_room le = ap (λ (k : ℕ). k + 10) (length_command_objects (encrypt (key_in suite key) counter d) le ∙ ap₂ ◌+◌ data_length_lem (length-le_object le))

  pub response_room : (sw1 sw2 : ℕ) → length (response_objects (encrypt (key_in suite key) counter d) sw1 sw2) + 10 ≡ response_length (length d)
  unfolding response_length
  response_room sw1 sw2 = ap (λ (k : ℕ). k + 10) (length_response_objects (encrypt (key_in suite key) counter d) sw1 sw2 ∙ ap (λ (k : ℕ). k + 4) data_length_lem)
