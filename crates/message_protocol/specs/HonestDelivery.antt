-- Demand 2: "A message honestly wrapped and carried whole to the other end, in step and with room, unwraps to the same data,
-- header, Le (or its absence) and status." Assumes nothing.
use Rattle.std.specs.Prelude.{◌≡◌, Ok, true, ℕ, ◌+◌, ◌≤◌, ◌<◌, length}
use Rattle.octets.specs.Bytes.{Bytes, IsBytes}
use Rattle.field_size.specs.Lengths.{ciphertext_length, command_length, response_length}
use Rattle.session_suite.specs.StoredKeys.{key_in, KeysOfBytes, Keys}
use Rattle.session_rules.specs.Valid.{counts_as_open}
use Rattle.session.specs.Opening.{opening}
use Rattle.session.specs.declared.Side.TheVariants.{Host, Card}
use Rattle.session.specs.declared.Phase.{Phase}
use Rattle.session.specs.declared.Phase.TheVariants.{Ready, Pending}
use Rattle.session.specs.declared.Session.{Session}
use Rattle.message_ciphers.specs.Ciphers.{Ciphers, IsKey}
use Rattle.message_answer.specs.Message.{header_of, Command, Response, max_command_data, max_response_data, command_limit}
use Rattle.message_permission.specs.Permission.{command_permitted, status_permitted}
use Rattle.message_answer.specs.Answer.{gave}
use Rattle.message_protocol.specs.Command.{host_wraps, card_unwraps}
use Rattle.message_protocol.specs.Response.{card_wraps, host_unwraps}

-- two sessions in step: a host's and a card's, open, in one phase, with the same suite, keys, count and chaining values
pub record InStep (phase : Phase) (h c : Session) : Type 0 where
  pub host_open : counts_as_open h ≡ true
  pub card_open : counts_as_open c ≡ true
  pub host_side : h.side ≡ Host
  pub card_side : c.side ≡ Card
  pub host_phase : h.phase ≡ phase
  pub card_phase : c.phase ≡ phase
  pub suites : c.suite ≡ h.suite
  pub counts : c.count ≡ h.count
  pub encs : c.sk_enc ≡ h.sk_enc
  pub macs : c.sk_mac ≡ h.sk_mac
  pub rmacs : c.sk_rmac ≡ h.sk_rmac
  pub command_mcvs : c.command_mcv ≡ h.command_mcv
  pub response_mcvs : c.response_mcv ≡ h.response_mcv

-- the keys in a session are bytes, as many as its suite asks
pub record Keyed (s : Session) : Type 0 where
  pub enc : IsKey (key_in s.suite s.sk_enc)
  pub mac : IsKey (key_in s.suite s.sk_mac)
  pub rmac : IsKey (key_in s.suite s.sk_rmac)

-- ---- a command, from the host to the card

pub record CommandDelivered (C : Ciphers) (h c : Session) (m : Command) (wrapRoom unwrapRoom : ℕ) : Type 0 where
  pub field : Bytes
  pub host : Session
  pub card : Session
  pub wraps : host_wraps C h m wrapRoom ≡ record { answer = gave field; next = host }
  pub sized : length field ≡ command_length (length m.payload) m.header.le
  pub unwraps : card_unwraps C c (header_of m.header) field unwrapRoom
      ≡ record { answer = gave (record { payload = m.payload; le = m.header.le }); next = card }
  pub again : InStep Pending host card
  pub keyed : Keyed host
  pub counted : host.count ≡ h.count + 1

abbrev pub DeliversCommands : Ciphers → Type 0
DeliversCommands C =
    (h c : Session) (m : Command) (wrapRoom unwrapRoom : ℕ)
    → InStep Ready h c → Keyed h → h.count < command_limit
    → command_permitted m.header (length m.payload) ≡ true → length m.payload ≤ max_command_data → IsBytes m.payload
    → command_length (length m.payload) m.header.le ≤ wrapRoom → ciphertext_length (length m.payload) ≤ unwrapRoom
    → CommandDelivered C h c m wrapRoom unwrapRoom

-- ---- a response, from the card to the host

pub record ResponseDelivered (C : Ciphers) (h c : Session) (m : Response) (wrapRoom unwrapRoom : ℕ) : Type 0 where
  pub field : Bytes
  pub host : Session
  pub card : Session
  pub wraps : card_wraps C c m wrapRoom ≡ record { answer = gave field; next = card }
  pub sized : length field ≡ response_length (length m.payload)
  pub unwraps : host_unwraps C h m.header field unwrapRoom ≡ record { answer = gave m; next = host }
  pub again : InStep Ready host card
  pub keyed : Keyed host
  pub counted : host.count ≡ h.count

abbrev pub DeliversResponses : Ciphers → Type 0
DeliversResponses C =
    (h c : Session) (m : Response) (wrapRoom unwrapRoom : ℕ)
    → InStep Pending h c → Keyed h
    → status_permitted m.header ≡ true → length m.payload ≤ max_response_data → IsBytes m.payload
    → response_length (length m.payload) ≤ wrapRoom → ciphertext_length (length m.payload) ≤ unwrapRoom
    → ResponseDelivered C h c m wrapRoom unwrapRoom

-- ---- it begins: two openings with the same keys are in step, at count 0; that they are of one suite follows

abbrev pub OpensInStep : Type 0
OpensInStep =
    (host_suite card_suite : ℕ) (K : Keys) → KeysOfBytes K → (opening Host host_suite K).answer ≡ Ok tt → (opening Card card_suite K).answer ≡ Ok tt
    → InStep Ready (opening Host host_suite K).next (opening Card card_suite K).next
    × (Keyed (opening Host host_suite K).next × ((opening Host host_suite K).next.count ≡ 0))
