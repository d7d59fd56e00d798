-- Demand 2, of the calls from C. A message that one end wraps, carried whole to the other, in step and with room, is
-- unwrapped there to the same data, header, Le (or its absence) and status; and the bytes that the two calls leave
-- are those of two sessions that are in step again.
use Rattle.std.specs.Prelude.{◌≡◌, true, false, ◌+◌, ◌≤◌, ◌<◌, length}
use Rattle.octets.specs.Bytes.{Bytes}
use Rattle.field_size.specs.Lengths.{ciphertext_length, command_length, response_length}
use Rattle.session.specs.declared.Side.TheVariants.{Host, Card}
use Rattle.session.specs.declared.Phase.{Phase}
use Rattle.session.specs.declared.Phase.TheVariants.{Ready, Pending}
use Rattle.session.specs.declared.Session.{Session}
use Rattle.session_bytes.specs.Saved.{encode}
use Rattle.session_bytes.specs.Lengths.{Lengths}
use Rattle.message_answer.specs.Message.{Command, Response, max_command_data, max_response_data, command_limit}
use Rattle.message_answer.specs.Answer.{gave}
use Rattle.message_permission.specs.Permission.{command_permitted, status_permitted}
use Rattle.message_protocol.specs.HonestDelivery.{InStep}
use Rattle.demand_capi.specs.Calls.{OpensHost, open_host_left, OpensCard, open_card_left, opened, WrapsCommand, wrap_command_given, UnwrapsCommand, unwrap_command_given, WrapsResponse, wrap_response_given, UnwrapsResponse, unwrap_response_given, Event, wraps_command, unwraps_command, wraps_response, unwraps_response, answer}
use Rattle.demand_capi.specs.Agreement.{HandedOn, left_bytes, OpenedAlike}

-- a call got the bytes of this session
abbrev pub Gets : Event → Session → Type 0
Gets e s = HandedOn (record { bytes = encode s; closed = false }) e

-- a host's session and a card's, in step
pub record Together (phase : Phase) (h c : Session) : Type 0 where
  pub in_step : InStep phase h c
  pub host_lengths : Lengths h
  pub card_lengths : Lengths c

-- ---- a command, from the host to the card

abbrev pub command : WrapsCommand → Command
command w = (wrap_command_given w).message

-- the card is given the field that the host wrapped, with the same header
pub record CommandCarried (w : WrapsCommand) (u : UnwrapsCommand) (field : Bytes) : Type 0 where
  pub ins : (unwrap_command_given u).header.ins ≡ (command w).header.ins
  pub p1 : (unwrap_command_given u).header.p1 ≡ (command w).header.p1
  pub p2 : (unwrap_command_given u).header.p2 ≡ (command w).header.p2
  pub whole : (unwrap_command_given u).field ≡ field

pub record CommandDelivered (w : WrapsCommand) (u : UnwrapsCommand) (h : Session) : Type 0 where
  pub field : Bytes
  pub host : Session
  pub card : Session
  pub wraps : answer (wraps_command Host w) ≡ gave field
  pub host_left : left_bytes (wraps_command Host w) ≡ encode host
  pub unwraps : CommandCarried w u field
      → answer (unwraps_command Card u) ≡ gave (record { payload = (command w).payload; le = (command w).header.le })
  pub card_left : CommandCarried w u field → left_bytes (unwraps_command Card u) ≡ encode card
  pub again : Together Pending host card
  pub counted : host.count ≡ h.count + 1

abbrev pub DeliversCommands : Type 0
DeliversCommands =
    (w : WrapsCommand) (u : UnwrapsCommand) (h c : Session) → Together Ready h c
    → Gets (wraps_command Host w) h → Gets (unwraps_command Card u) c → h.count < command_limit
    → command_permitted (command w).header (length (command w).payload) ≡ true
    → length (command w).payload ≤ max_command_data
    → command_length (length (command w).payload) (command w).header.le ≤ length (wrap_command_given w).field
    → ciphertext_length (length (command w).payload) ≤ length (unwrap_command_given u).payload
    → CommandDelivered w u h

-- ---- a response, from the card to the host

abbrev pub response : WrapsResponse → Response
response w = (wrap_response_given w).message

-- the host is given the field that the card wrapped, with the same status word
pub record ResponseCarried (w : WrapsResponse) (u : UnwrapsResponse) (field : Bytes) : Type 0 where
  pub sw : (unwrap_response_given u).sw ≡ (response w).header
  pub whole : (unwrap_response_given u).field ≡ field

pub record ResponseDelivered (w : WrapsResponse) (u : UnwrapsResponse) (h : Session) : Type 0 where
  pub field : Bytes
  pub host : Session
  pub card : Session
  pub wraps : answer (wraps_response Card w) ≡ gave field
  pub card_left : left_bytes (wraps_response Card w) ≡ encode card
  pub unwraps : ResponseCarried w u field → answer (unwraps_response Host u) ≡ gave (response w)
  pub host_left : ResponseCarried w u field → left_bytes (unwraps_response Host u) ≡ encode host
  pub again : Together Ready host card
  pub counted : host.count ≡ h.count

abbrev pub DeliversResponses : Type 0
DeliversResponses =
    (w : WrapsResponse) (u : UnwrapsResponse) (h c : Session) → Together Pending h c
    → Gets (wraps_response Card w) c → Gets (unwraps_response Host u) h
    → status_permitted (response w).header ≡ true → length (response w).payload ≤ max_response_data
    → response_length (length (response w).payload) ≤ length (wrap_response_given w).field
    → ciphertext_length (length (response w).payload) ≤ length (unwrap_response_given u).payload
    → ResponseDelivered w u h

-- ---- it begins: two openings with the same keys leave sessions in step, at count 0

pub record OpenedInStep (h : OpensHost) (c : OpensCard) : Type 0 where
  pub host : Session
  pub card : Session
  pub host_left : opened (open_host_left h) ≡ encode host
  pub card_left : opened (open_card_left c) ≡ encode card
  pub together : Together Ready host card
  pub counted : host.count ≡ 0

abbrev pub OpensInStep : Type 0
OpensInStep = (h : OpensHost) (c : OpensCard) → OpenedAlike h c → OpenedInStep h c
