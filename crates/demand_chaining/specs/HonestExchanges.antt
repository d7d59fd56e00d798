-- Demand 2, of whole runs: every list of at most 65,535 honest exchanges from opening succeeds, of the functions. Assumes nothing.
use Rattle.std.specs.Prelude.{◌≡◌, List, [], ◌∷◌, ℕ, ◌≤◌, length, Ok}
use Rattle.octets.specs.Bytes.{Bytes}
use Rattle.session.specs.declared.Side.TheVariants.{Host, Card}
use Rattle.session.specs.declared.Session.{Session}
use Rattle.message_answer.specs.Message.{command_limit}
use Rattle.demand_calls.specs.Calls.{OpensHost, OpensCard, host_keys, card_keys, WrapsCommand, UnwrapsCommand, WrapsResponse, UnwrapsResponse, wraps_command, unwraps_command, wraps_response, unwraps_response, session, command, response, next}
use Rattle.demand_chaining.specs.Calls.{FragmentsCommand, ReassemblesCommand, FragmentsResponse, ReassemblesResponse}
use Rattle.demand_chaining.specs.CommandChaining.{CommandReassembled}
use Rattle.demand_chaining.specs.ResponseChaining.{ResponseReassembled}
use Rattle.demand_chaining.specs.ChainedCommand.{field_of, header_of, Sendable as CommandSendable, CarriesCommand, CommandArrives}
use Rattle.demand_chaining.specs.ChainedResponse.{field_of as responseFieldOf, Sendable as ResponseSendable, CarriesResponse, ResponseArrives}

-- the calls of an exchange: a command to the card, in fragments of that size, and its response to the host; each end reassembles in a buffer
pub record Exchange : Type 0 where
  pub wrap : WrapsCommand
  pub size : ℕ
  pub fragments : List FragmentsCommand
  pub card_held : Bytes
  pub reassembled : List ReassemblesCommand
  pub unwrap : UnwrapsCommand
  pub wrap_response : WrapsResponse
  pub response_fragments : List FragmentsResponse
  pub host_held : Bytes
  pub response_reassembled : List ReassemblesResponse
  pub unwrap_response : UnwrapsResponse

-- each call got the session that the call before it at its end left, and what the other end sent; the messages may be sent, with room for them
pub record Honest (h c : Session) (e : Exchange) : Type 0 where
  pub host : session (wraps_command Host e.wrap) ≡ h
  pub card : session (unwraps_command Card e.unwrap) ≡ c
  pub command_sendable : CommandSendable e.wrap e.unwrap
  pub command_carried : CarriesCommand e.wrap e.size e.card_held e.fragments e.reassembled e.unwrap
  pub host_then : session (unwraps_response Host e.unwrap_response) ≡ next (wraps_command Host e.wrap)
  pub card_then : session (wraps_response Card e.wrap_response) ≡ next (unwraps_command Card e.unwrap)
  pub response_sendable : ResponseSendable e.wrap_response e.unwrap_response
  pub response_carried : CarriesResponse e.wrap_response e.host_held e.response_fragments e.response_reassembled e.unwrap_response

abbrev pub AllHonest : Session → Session → List Exchange → Type 0
AllHonest h c [] = Unit {0}
AllHonest h c (e ∷ es) = Honest h c e × AllHonest (next (unwraps_response Host e.unwrap_response)) (next (wraps_response Card e.wrap_response)) es

-- both fields were reassembled, and both messages arrived
pub record Succeeds (e : Exchange) : Type 0 where
  pub command_whole : CommandReassembled (header_of (command e.wrap).header) (field_of e.wrap) e.size e.card_held e.reassembled
  pub command_arrives : CommandArrives e.wrap e.unwrap
  pub response_whole : ResponseReassembled (response e.wrap_response).header (responseFieldOf e.wrap_response) e.host_held e.response_reassembled
  pub response_arrives : ResponseArrives e.wrap_response e.unwrap_response

abbrev pub AllSucceed : List Exchange → Type 0
AllSucceed [] = Unit {0}
AllSucceed (e ∷ es) = Succeeds e × AllSucceed es

abbrev pub HonestExchanges : Type 0
HonestExchanges =
    (h : OpensHost) (c : OpensCard) → h.result.answer ≡ Ok tt → c.result.answer ≡ Ok tt → card_keys c ≡ host_keys h
    → (es : List Exchange) → length es ≤ command_limit → AllHonest h.result.next c.result.next es → AllSucceed es
