-- Demand 2, of the functions: "A message honestly wrapped and carried whole to the other end, in step and with room, unwraps to the same data,
-- header, Le (or its absence) and status." That the functions are what the standards define is said by their contracts. Assumes nothing.
use Rattle.std.specs.Prelude.{◌≡◌, true, ◌+◌, ◌≤◌, ◌<◌, length, Ok}
use Rattle.octets.specs.Bytes.{Bytes}
use Rattle.field_size.specs.Lengths.{ciphertext_length, command_length, response_length}
use Rattle.session.specs.declared.Side.TheVariants.{Host, Card}
use Rattle.session.specs.declared.Phase.TheVariants.{Ready, Pending}
use Rattle.message_answer.specs.Message.{max_command_data, max_response_data, command_limit}
use Rattle.message_permission.specs.Permission.{command_permitted, status_permitted}
use Rattle.message_answer.specs.Answer.{gave}
use Rattle.message_protocol.specs.HonestDelivery.{InStep}
use Rattle.demand_calls.specs.Calls.{OpensHost, OpensCard, host_keys, card_keys, WrapsCommand, UnwrapsCommand, WrapsResponse, UnwrapsResponse, wraps_command, unwraps_command, wraps_response, unwraps_response, session, command, response, buffer_before, next, answer}

-- ---- a command, from the host to the card

-- the field that the card is handed, and the header beside it, are the wrapped ones
pub record CommandCarried (w : WrapsCommand) (u : UnwrapsCommand) (field : Bytes) : Type 0 where
  pub ins : u.args.1.0.ins ≡ (command w).header.ins
  pub p1 : u.args.1.0.p1 ≡ (command w).header.p1
  pub p2 : u.args.1.0.p2 ≡ (command w).header.p2
  pub whole : u.args.1.1.0.now ≡ field

pub record CommandDelivered (w : WrapsCommand) (u : UnwrapsCommand) : Type 0 where
  pub field : Bytes
  pub wraps : answer (wraps_command Host w) ≡ gave field
  pub sized : length field ≡ command_length (length (command w).payload) (command w).header.le
  pub unwraps : CommandCarried w u field
      → answer (unwraps_command Card u) ≡ gave (record { payload = (command w).payload; le = (command w).header.le })
  pub again : CommandCarried w u field → InStep Pending (next (wraps_command Host w)) (next (unwraps_command Card u))
  pub counted : (next (wraps_command Host w)).count ≡ (session (wraps_command Host w)).count + 1

abbrev pub DeliversCommands : Type 0
DeliversCommands =
    (w : WrapsCommand) (u : UnwrapsCommand)
    → InStep Ready (session (wraps_command Host w)) (session (unwraps_command Card u)) → (session (wraps_command Host w)).count < command_limit
    → command_permitted (command w).header (length (command w).payload) ≡ true → length (command w).payload ≤ max_command_data
    → command_length (length (command w).payload) (command w).header.le ≤ length (buffer_before (wraps_command Host w))
    → ciphertext_length (length (command w).payload) ≤ length (buffer_before (unwraps_command Card u))
    → CommandDelivered w u

-- ---- a response, from the card to the host

pub record ResponseCarried (w : WrapsResponse) (u : UnwrapsResponse) (field : Bytes) : Type 0 where
  pub sw1 : u.args.1.0.sw1 ≡ (response w).header.sw1
  pub sw2 : u.args.1.0.sw2 ≡ (response w).header.sw2
  pub whole : u.args.1.1.0.now ≡ field

pub record ResponseDelivered (w : WrapsResponse) (u : UnwrapsResponse) : Type 0 where
  pub field : Bytes
  pub wraps : answer (wraps_response Card w) ≡ gave field
  pub sized : length field ≡ response_length (length (response w).payload)
  pub unwraps : ResponseCarried w u field → answer (unwraps_response Host u) ≡ gave (response w)
  pub again : ResponseCarried w u field → InStep Ready (next (unwraps_response Host u)) (next (wraps_response Card w))
  pub counted : ResponseCarried w u field → (next (unwraps_response Host u)).count ≡ (session (unwraps_response Host u)).count

abbrev pub DeliversResponses : Type 0
DeliversResponses =
    (w : WrapsResponse) (u : UnwrapsResponse)
    → InStep Pending (session (unwraps_response Host u)) (session (wraps_response Card w))
    → status_permitted (response w).header ≡ true → length (response w).payload ≤ max_response_data
    → response_length (length (response w).payload) ≤ length (buffer_before (wraps_response Card w))
    → ciphertext_length (length (response w).payload) ≤ length (buffer_before (unwraps_response Host u))
    → ResponseDelivered w u

-- ---- it begins: two openings with the same keys are in step, at count 0

abbrev pub OpensInStep : Type 0
OpensInStep =
    (h : OpensHost) (c : OpensCard) → h.result.answer ≡ Ok tt → c.result.answer ≡ Ok tt
    → card_keys c ≡ host_keys h → InStep Ready h.result.next c.result.next × (h.result.next.count ≡ 0)
