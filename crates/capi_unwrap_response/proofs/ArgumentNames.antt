-- The arguments of the call by name: each is what stands in its place.
use mathlib.Core.Path.{◌≡◌, refl}
use mathlib.Core.List.{[], ◌∷◌}
use Rattle.capi_session.specs.SessionBytes.{held_in}
use Rattle.capi_unwrap_response.specs.Call.{given}

names : given (0x01 ∷ []) 2 0x6A82 (0x06 ∷ []) (0x07 ∷ [])
    ≡ record { held = held_in (0x01 ∷ []) 2; sw = record { sw1 = 0x6A; sw2 = 0x82 }; field = 0x06 ∷ []; payload = 0x07 ∷ [] }
names = refl
