-- Fields that the checker writes out itself: every tag, length and fixed byte, in the order of SP 800-73-4 Part 2, 4.2.
use mathlib.Core.Path.{◌≡◌, refl}
use mathlib.Core.Bool.{true, false}
use mathlib.Core.List.{[], ◌∷◌, ◌++◌}
use lib.ListN.{replicate}
use Rattle.field_ber_length.specs.Length.{length_field}
use Rattle.field_write.specs.Objects.{object, encrypted_data, le_object, status_word, mac_object, command_objects, response_objects, command_field, response_field}

record Computed : Type 0 where
  command : command_field (replicate 16 9) true (replicate 8 5)
      ≡ 0x87 ∷ 0x11 ∷ 0x01 ∷ replicate 16 9 ++ 0x97 ∷ 0x01 ∷ 0x00 ∷ 0x8E ∷ 0x08 ∷ replicate 8 5
  without_data_and_le : command_field [] false (replicate 8 5) ≡ 0x8E ∷ 0x08 ∷ replicate 8 5
  response : response_field (replicate 16 9) 0x90 0x00 (replicate 8 5)
      ≡ 0x87 ∷ 0x11 ∷ 0x01 ∷ replicate 16 9 ++ 0x99 ∷ 0x02 ∷ 0x90 ∷ 0x00 ∷ 0x8E ∷ 0x08 ∷ replicate 8 5

computed : Computed
unfolding length_field object encrypted_data le_object status_word mac_object command_objects response_objects command_field response_field
computed = record { command = refl; without_data_and_le = refl; response = refl }
