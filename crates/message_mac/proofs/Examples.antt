-- MAC inputs that the checker writes out itself, in the order of SP 800-73-4 Part 2, 4.2.3 and 4.2.5.
-- Assumes nothing.
use mathlib.Core.Path.{◌≡◌, refl}
use mathlib.Core.Bool.{true, false}
use mathlib.Core.List.{[], ◌∷◌, ◌++◌}
use lib.ListN.{replicate}
use Rattle.octets.specs.Bytes.{zeros}
use Rattle.apdu.specs.Apdu.{header}
use Rattle.field_ber_length.specs.Length.{length_field}
use Rattle.field_write.specs.Objects.{object, encrypted_data, le_object, status_word, command_objects, response_objects}
use Rattle.message_mac.specs.MacInput.{encoded_header, command_mac_input, response_mac_input}

record Computed : Type 0 where
  -- VERIFY with one block of encrypted data; GET DATA with Le; a status alone; each after a chaining value of 07
  verify : command_mac_input (replicate 16 7) (header 0x20 0x00 0x98) (command_objects (replicate 16 9) false)
      ≡ replicate 16 7 ++ (0x0C ∷ 0x20 ∷ 0x00 ∷ 0x98 ∷ 0x80 ∷ zeros 11) ++ (0x87 ∷ 0x11 ∷ 0x01 ∷ replicate 16 9)
  get_data : command_mac_input (replicate 16 7) (header 0xCB 0x3F 0xFF) (command_objects (replicate 16 9) true)
      ≡ replicate 16 7 ++ (0x0C ∷ 0xCB ∷ 0x3F ∷ 0xFF ∷ 0x80 ∷ zeros 11) ++ (0x87 ∷ 0x11 ∷ 0x01 ∷ replicate 16 9) ++ (0x97 ∷ 0x01 ∷ 0x00 ∷ [])
  status : response_mac_input (replicate 16 7) (response_objects [] 0x90 0x00) ≡ replicate 16 7 ++ (0x99 ∷ 0x02 ∷ 0x90 ∷ 0x00 ∷ [])

computed : Computed
unfolding length_field object encrypted_data le_object status_word command_objects response_objects encoded_header command_mac_input response_mac_input
computed = record { verify = refl; get_data = refl; status = refl }
