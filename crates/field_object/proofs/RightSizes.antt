-- Every length of a short object, tried by the checker: which of them each tag may have.
use mathlib.Core.Path.{◌≡◌, refl}
use mathlib.Core.List.{[], ◌∷◌}
use Rattle.octets.proofs.Chosen.{chosen}
use Rattle.field_expected.specs.declared.Need.TheVariants.{Must, May}
use Rattle.field_expected.specs.declared.Second.TheVariants.{Le, Status}
use Rattle.field_expected.specs.declared.Wanted.{Wanted}
use Rattle.field_object.specs.Values.{right_size}

-- at most 32 bytes of encrypted data, and Le; and a status word
command : Wanted
command = record { «data» = Must; limit = 32; second = Le Must }

response : Wanted
response = record { «data» = May; limit = 32; second = Status 0x90 0x00 }

record Computed : Type 0 where
  encrypted_data_lem : chosen (right_size command 0x87) 64 ≡ 17 ∷ 33 ∷ []
  le : chosen (right_size command 0x97) 64 ≡ 1 ∷ []
  status : chosen (right_size response 0x99) 64 ≡ 2 ∷ []
  mac : chosen (right_size command 0x8E) 64 ≡ 8 ∷ []

computed : Computed
unfolding chosen right_size command response
computed = record { encrypted_data_lem = refl; le = refl; status = refl; mac = refl }
