-- Every INS and every SW1, tried by the checker: which commands, with and without Le and data, and which statuses are permitted.
-- Assumes nothing.
use mathlib.Core.Path.{◌≡◌, refl}
use mathlib.Core.Bool.{true, false, not}
use mathlib.Core.List.{[], ◌∷◌}
use Prim.Native.Nat.{ℕ}
use Rattle.octets.proofs.Chosen.{chosen}
use Rattle.message_answer.specs.Message.{header, status}
use Rattle.message_permission.specs.Permission.{ins_permitted, le_need, data_need, command_permitted, status_permitted}

record Computed : Type 0 where
  -- VERIFY, CHANGE REFERENCE DATA, GENERAL AUTHENTICATE, GET DATA
  ins : chosen ins_permitted 256 ≡ 0x20 ∷ 0x24 ∷ 0x87 ∷ 0xCB ∷ []
  with_le : chosen (λ (ins : ℕ). command_permitted (header ins 0x00 0x00 true) 1) 256 ≡ 0x87 ∷ 0xCB ∷ []
  without_le : chosen (λ (ins : ℕ). command_permitted (header ins 0x00 0x00 false) 1) 256 ≡ 0x20 ∷ 0x24 ∷ 0x87 ∷ []
  without_data : chosen (λ (ins : ℕ). command_permitted (header ins 0x00 0x00 false) 0) 256 ≡ 0x20 ∷ []
  with_le_alone : chosen (λ (ins : ℕ). command_permitted (header ins 0x00 0x00 true) 0) 256 ≡ []
  -- SW1 of a status that a card may not wrap
  sw1 : chosen (λ (sw1 : ℕ). not (status_permitted (status sw1 0x00))) 256 ≡ 0x61 ∷ []

computed : Computed
unfolding chosen ins_permitted le_need data_need command_permitted status_permitted
computed = record { ins = refl; with_le = refl; without_le = refl; without_data = refl; with_le_alone = refl; sw1 = refl }
