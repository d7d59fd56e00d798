-- The arguments of the call by name: each is what stands in its place.
use mathlib.Core.Path.{◌≡◌, refl}
use mathlib.Core.List.{[], ◌∷◌}
use Rattle.capi_session.specs.SessionBytes.{held_in}
use Rattle.capi_unwrap_command.specs.Call.{given}

names : given (0x01 ∷ []) 2 3 4 5 (0x06 ∷ []) (0x07 ∷ [])
    ≡ record { held = held_in (0x01 ∷ []) 2; header = record { ins = 3; p1 = 4; p2 = 5 }; field = 0x06 ∷ []; payload = 0x07 ∷ [] }
names = refl
