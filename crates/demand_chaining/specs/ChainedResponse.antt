-- Demand 2: a response that the card wraps and fragments as it is asked, and that the host reassembles and unwraps, of the functions. Assumes nothing.
use Rattle.std.specs.Prelude.{◌≡◌, true, List, [], ◌∷◌, ◌≤◌, length, take, Result, Ok, Err}
use Rattle.octets.specs.Bytes.{Bytes}
use Rattle.field_size.specs.Lengths.{ciphertext_length, response_length}
use Rattle.session.specs.declared.Side.TheVariants.{Host, Card}
use Rattle.session.specs.declared.Phase.TheVariants.{Ready, Pending}
use Rattle.message_answer.specs.Message.{max_response_data}
use Rattle.message_permission.specs.Permission.{status_permitted}
use Rattle.message_answer.specs.Answer.{gave}
use Rattle.message_protocol.specs.HonestDelivery.{InStep}
use Rattle.chain_parts.specs.Parts.{ceiling}
use Rattle.chain_response.specs.Reassembly.{empty}
use Rattle.refusal.specs.declared.Refusal.{Refusal}
use Rattle.chain_response.specs.declared.ResponsePart.{ResponsePart}
use Rattle.chain_response.specs.declared.ResponsePart.TheVariants.{More, Whole}
use Rattle.demand_calls.specs.Calls.{WrapsResponse, UnwrapsResponse, wraps_response, unwraps_response, session, response, buffer_before, next, answer}
use Rattle.demand_chaining.specs.Calls.{FragmentsResponse, ReassemblesResponse}
use Rattle.demand_chaining.specs.ResponseChaining.{Handed, buffer_after, ResponseReassembled}
use Rattle.demand_chaining.specs.ChainedCommand.{field_in}

abbrev pub field_of : WrapsResponse → Bytes
field_of w = field_in (answer (wraps_response Card w))

-- the answer of the last call
abbrev pub last_answer : Result ResponsePart Refusal → List ReassemblesResponse → Result ResponsePart Refusal
last_answer a [] = a
last_answer a (r ∷ rs) = last_answer r.result.answer rs

-- what is unwrapped is the field and the status word that reassembling gave; where it gave none, nothing is said of what is unwrapped
abbrev pub Unwraps : Result ResponsePart Refusal → Bytes → UnwrapsResponse → Type 0
Unwraps (Ok (Whole n sw)) out u = (u.args.1.0.sw1 ≡ sw.sw1) × (u.args.1.0.sw2 ≡ sw.sw2) × (u.args.1.1.0.now ≡ take n out)
Unwraps (Ok (More n le)) out u = Unit {0}
Unwraps (Err r) out u = Unit {0}

-- wrapped, fragmented in as many fragments as there are, reassembled in a buffer that held those bytes, and unwrapped
pub record CarriesResponse (w : WrapsResponse) (held : Bytes) (fs : List FragmentsResponse) (rs : List ReassemblesResponse) (u : UnwrapsResponse) : Type 0 where
  pub count : length rs ≡ ceiling (length (field_of w)) 256
  pub reassembled : Handed (response w).header (field_of w) 0 0x00 empty held fs rs
  pub room : length (field_of w) ≤ length held
  pub unwrapped : Unwraps (last_answer (Ok (More 0 0)) rs) (buffer_after held rs) u

-- the conditions of a wrap and an unwrap that are not about their sessions: permitted, within the limits, with room
pub record Sendable (w : WrapsResponse) (u : UnwrapsResponse) : Type 0 where
  pub permitted : status_permitted (response w).header ≡ true
  pub short : length (response w).payload ≤ max_response_data
  pub wrap_room : response_length (length (response w).payload) ≤ length (buffer_before (wraps_response Card w))
  pub unwrap_room : ciphertext_length (length (response w).payload) ≤ length (buffer_before (unwraps_response Host u))

pub record ResponseArrives (w : WrapsResponse) (u : UnwrapsResponse) : Type 0 where
  pub sent : answer (wraps_response Card w) ≡ gave (field_of w)
  pub same : answer (unwraps_response Host u) ≡ gave (response w)
  pub again : InStep Ready (next (unwraps_response Host u)) (next (wraps_response Card w))
  pub counted : (next (unwraps_response Host u)).count ≡ (session (unwraps_response Host u)).count

abbrev pub DeliversChainedResponses : Type 0
DeliversChainedResponses =
    (w : WrapsResponse) (held : Bytes) (fs : List FragmentsResponse) (rs : List ReassemblesResponse) (u : UnwrapsResponse)
    → InStep Pending (session (unwraps_response Host u)) (session (wraps_response Card w))
    → Sendable w u → CarriesResponse w held fs rs u
    → ResponseReassembled (response w).header (field_of w) held rs × ResponseArrives w u
