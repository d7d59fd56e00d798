-- For all arguments of a call there is a call that ran with these arguments: what the definition of its name gives meets the generated contract. So the
-- demands are about something, whatever the arguments; and each argument stands in the place of its name.
use mathlib.Core.Path.{◌≡◌, refl}
use mathlib.Core.Bool.{Bool, false}
use mathlib.Core.List.{[]}
use Prim.Native.Nat.{ℕ}
use denote.Ref.{Bor, MutBor, at_last}
use Rattle.octets.specs.Bytes.{Bytes, IsBytes}
use Rattle.session_suite.specs.StoredKeys.{KeysOfBytes, keys}
use Rattle.capi_open.specs.Call as Open
use Rattle.capi_close.specs.Call as Close
use Rattle.capi_wrap_command.specs.Call as WrapCommand
use Rattle.capi_unwrap_command.specs.Call as UnwrapCommand
use Rattle.capi_wrap_response.specs.Call as WrapResponse
use Rattle.capi_unwrap_response.specs.Call as UnwrapResponse
use Rattle.demand_capi.specs.Calls.{OpensHost, open_host_given, OpensCard, open_card_given, Closes, close_given, WrapsCommand, wrap_command_given, UnwrapsCommand, unwrap_command_given, WrapsResponse, wrap_response_given, UnwrapsResponse, unwrap_response_given}

-- a reference to a value; where it points makes no difference
abbrev to : {X : Type 0} → X → Bor X
to x = record { ref_ptr = (0, 0); now = x }

-- the same of a reference that may be written through
abbrev lent : {X : Type 0} → X → MutBor X
lent x = record { ref_ptr = (0, 0); ghost_name = 0; now = x }

module _ (suite : ℕ) (enc mac rmac session : Bytes) (len : ℕ) (b : KeysOfBytes (keys enc mac rmac)) where
  abbrev given-opening : Open.Given
  given-opening = Open.given suite enc mac rmac session

  abbrev pub opens-host : OpensHost
  opens-host =
      let l = Open.pivsm_open_host given-opening in
      record {
        κs = ([], ([], ([], ([], ([], tt)))));
        args = (suite, (to enc, (to mac, (to rmac, (lent session, (lent len, tt))))));
        result = l.number;
        exit = (suite, (to enc, (to mac, (to rmac, (at_last (lent session) l.session, (at_last (lent len) l.len, tt))))));
        met = (refl, b);
      }

  abbrev pub opens-card : OpensCard
  opens-card =
      let l = Open.pivsm_open_card given-opening in
      record {
        κs = ([], ([], ([], ([], ([], tt)))));
        args = (suite, (to enc, (to mac, (to rmac, (lent session, (lent len, tt))))));
        result = l.number;
        exit = (suite, (to enc, (to mac, (to rmac, (at_last (lent session) l.session, (at_last (lent len) l.len, tt))))));
        met = (refl, b);
      }

  pub opens_host_given : open_host_given opens-host ≡ given-opening
  opens_host_given = refl

  pub opens_card_given : open_card_given opens-card ≡ given-opening
  opens_card_given = refl

module _ (session : Bytes) (len : ℕ) (b : IsBytes session) where
  abbrev pub closes : Closes
  closes =
      let l = Close.pivsm_close (Close.given session len) in
      record {
        κs = ([], ([], tt));
        args = (lent session, (lent len, tt));
        result = l.number;
        exit = (at_last (lent session) l.held.bytes, (at_last (lent len) l.held.len, tt));
        met = (refl, b);
      }

  pub closes_given : close_given closes ≡ Close.given session len
  closes_given = refl

  module _ (ins p1 p2 : ℕ) (le : Bool) (payload field : Bytes) (d : IsBytes payload) where
    abbrev pub wraps-command : WrapsCommand
    wraps-command =
        let l = WrapCommand.pivsm_wrap_command (WrapCommand.given session len ins p1 p2 le payload field) in
        record {
          κs = ([], ([], ([], ([], ([], tt)))));
          args = (lent session, (lent len, (ins, (p1, (p2, (le, (to payload, (lent field, (lent 0, tt)))))))));
          result = l.number;
          exit = (at_last (lent session) l.held.bytes, (at_last (lent len) l.held.len, (ins, (p1, (p2, (le, (to payload, (at_last (lent field) l.field, (at_last (lent 0) l.written, tt)))))))));
          met = (refl, (b, d));
        }

    pub wraps_command_given : wrap_command_given wraps-command ≡ WrapCommand.given session len ins p1 p2 le payload field
    wraps_command_given = refl

  module _ (ins p1 p2 : ℕ) (field payload : Bytes) where
    abbrev pub unwraps-command : UnwrapsCommand
    unwraps-command =
        let l = UnwrapCommand.pivsm_unwrap_command (UnwrapCommand.given session len ins p1 p2 field payload) in
        record {
          κs = ([], ([], ([], ([], ([], ([], tt))))));
          args = (lent session, (lent len, (ins, (p1, (p2, (to field, (lent payload, (lent 0, (lent false, tt)))))))));
          result = l.number;
          exit = (at_last (lent session) l.held.bytes, (at_last (lent len) l.held.len, (ins, (p1, (p2, (to field, (at_last (lent payload) l.payload, (at_last (lent 0) l.written, (at_last (lent false) l.le, tt)))))))));
          met = (refl, b);
        }

    pub unwraps_command_given : unwrap_command_given unwraps-command ≡ UnwrapCommand.given session len ins p1 p2 field payload
    unwraps_command_given = refl

  module _ (sw : ℕ) (payload field : Bytes) (d : IsBytes payload) where
    abbrev pub wraps-response : WrapsResponse
    wraps-response =
        let l = WrapResponse.pivsm_wrap_response (WrapResponse.given session len sw payload field) in
        record {
          κs = ([], ([], ([], ([], ([], tt)))));
          args = (lent session, (lent len, (sw, (to payload, (lent field, (lent 0, tt))))));
          result = l.number;
          exit = (at_last (lent session) l.held.bytes, (at_last (lent len) l.held.len, (sw, (to payload, (at_last (lent field) l.field, (at_last (lent 0) l.written, tt))))));
          met = (refl, (b, d));
        }

    pub wraps_response_given : wrap_response_given wraps-response ≡ WrapResponse.given session len sw payload field
    wraps_response_given = refl

  module _ (sw : ℕ) (field payload : Bytes) where
    abbrev pub unwraps-response : UnwrapsResponse
    unwraps-response =
        let l = UnwrapResponse.pivsm_unwrap_response (UnwrapResponse.given session len sw field payload) in
        record {
          κs = ([], ([], ([], ([], ([], ([], tt))))));
          args = (lent session, (lent len, (sw, (to field, (lent payload, (lent 0, (lent 0, tt)))))));
          result = l.number;
          exit = (at_last (lent session) l.held.bytes, (at_last (lent len) l.held.len, (sw, (to field, (at_last (lent payload) l.payload, (at_last (lent 0) l.written, (at_last (lent 0) l.status, tt)))))));
          met = (refl, b);
        }

    pub unwraps_response_given : unwrap_response_given unwraps-response ≡ UnwrapResponse.given session len sw field payload
    unwraps_response_given = refl
