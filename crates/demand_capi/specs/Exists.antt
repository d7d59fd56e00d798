-- The demands are about something: a trace goes on with any call, whatever its arguments.
use Rattle.std.specs.Prelude.{◌≡◌, List, [], ◌∷◌, ◌++◌, ◌<◌}
use Rattle.octets.specs.Bytes.{IsBytes}
use Rattle.session_suite.specs.StoredKeys.{Keys}
use Rattle.message_protocol.specs.Transcript.{Call, wrap_command, unwrap_command, wrap_response, unwrap_response, close, side_of}
use Rattle.demand_capi.specs.Calls.{Event, call}
use Rattle.demand_capi.specs.Agreement.{State, at, ran, Trace}

-- arguments of the types that C has: the data of a wrap is bytes, and so is SW2
abbrev pub Typed : Call → Type 0
Typed (wrap_command side m room) = IsBytes m.payload
Typed (unwrap_command side header field room) = Unit {0}
Typed (wrap_response side m room) = IsBytes m.payload × (m.header.sw2 < 256)
Typed (unwrap_response side sw field room) = sw.sw2 < 256
Typed (close side) = Unit {0}

pub record GoesOnWith (K : Keys) (st : State) (es : List Event) (c : Call) : Type 0 where
  pub event : Event
  pub is_call : call event ≡ c
  pub trace : Trace K st (es ++ event ∷ [])

abbrev pub GoesOn : Type 0
GoesOn =
    (K : Keys) (st : State) (es : List Event) → Trace K st es → (c : Call) → Typed c
    → IsBytes (at (ran K st es) (side_of c)).bytes → GoesOnWith K st es c
