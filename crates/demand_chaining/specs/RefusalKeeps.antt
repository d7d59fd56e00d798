-- Demand 1 (rule 10.1), of the functions that fragment and reassemble: every refusal has a number of its call's order and changes no byte of the caller's buffer;
-- one of reassembling empties the chain.
use Rattle.std.specs.Prelude.{◌≡◌, ℕ, take, drop, Err}
use mathlib.Core.List.{List, [], ◌∷◌, Memᴰ}
use Rattle.octets.specs.Bytes.{Bytes}
use Rattle.refusal.specs.Refusal.{number}
use Rattle.refusal.specs.declared.Refusal.{Refusal}
use Rattle.capi_values.specs.ChainingValues.{fragment_values, reassembly_values, response_fragment_values, response_reassembly_values}
use Rattle.capi_values.specs.Values.{refusal_values}
use Rattle.capi_values.specs.declared.Values.{Values}
use Rattle.chain_command.specs.Reassembly.{empty as emptyCommand}
use Rattle.chain_response.specs.Reassembly.{empty as emptyResponse}
use Rattle.demand_chaining.specs.Calls.{FragmentsCommand, ReassemblesCommand, FragmentsResponse, ReassemblesResponse, fragment_before, fragment_after, chain_given, field_before, field_after, response_fragment_before, response_fragment_after, response_chain_given, response_field_before, response_field_after}

pub data Event : Type 0 where
  fragments_command : FragmentsCommand → Event
  reassembles_command : ReassemblesCommand → Event
  fragments_response : FragmentsResponse → Event
  reassembles_response : ReassemblesResponse → Event

-- the refusals of each call; that they come in the order of rule 2.5 is in the calls' definitions, and computed in their proofs/Answers
abbrev pub order : Event → List ℕ
order (fragments_command f) = 15 ∷ 4 ∷ 14 ∷ 6 ∷ []
order (reassembles_command r) = 7 ∷ 14 ∷ 4 ∷ 6 ∷ []
order (fragments_response f) = 3 ∷ 4 ∷ 14 ∷ 6 ∷ []
order (reassembles_response r) = 7 ∷ 14 ∷ 4 ∷ 6 ∷ []

abbrev pub before : Event → Bytes
before (fragments_command f) = fragment_before f
before (reassembles_command r) = field_before r
before (fragments_response f) = response_fragment_before f
before (reassembles_response r) = response_field_before r

abbrev pub after : Event → Bytes
after (fragments_command f) = fragment_after f
after (reassembles_command r) = field_after r
after (fragments_response f) = response_fragment_after f
after (reassembles_response r) = response_field_after r

-- ---- number and values of each answer, as rules 2.1 and 2.2 have them

abbrev pub values : Event → Values
values (fragments_command f) = fragment_values f.result
values (reassembles_command r) = reassembly_values r.result.answer
values (fragments_response f) = response_fragment_values f.result
values (reassembles_response r) = response_reassembly_values r.result.answer

-- ---- the demand

abbrev pub Refuses : Event → Refusal → Type 0
Refuses (fragments_command f) q = f.result ≡ Err q
Refuses (reassembles_command r) q = r.result.answer ≡ Err q
Refuses (fragments_response f) q = f.result ≡ Err q
Refuses (reassembles_response r) q = r.result.answer ≡ Err q

-- fragmenting keeps nothing between calls
abbrev pub Dropped : Event → Type 0
Dropped (fragments_command f) = Unit {0}
Dropped (reassembles_command r) = r.result.next ≡ emptyCommand
Dropped (fragments_response f) = Unit {0}
Dropped (reassembles_response r) = r.result.next ≡ emptyResponse

pub record Keeps (e : Event) (q : Refusal) : Type 0 where
  pub in_order : Memᴰ (number q) (order e)
  pub told : values e ≡ refusal_values q
  pub output : after e ≡ before e
  pub dropped : Dropped e

abbrev pub RefusalKeeps : Type 0
RefusalKeeps = (e : Event) (q : Refusal) → Refuses e q → Keeps e q

-- ---- rule 2.4: bytes after those that a call writes stay; and reassembling keeps those before them

abbrev pub start_of : Event → ℕ
start_of (fragments_command f) = 0
start_of (reassembles_command r) = (chain_given r).len
start_of (fragments_response f) = 0
start_of (reassembles_response r) = (response_chain_given r).len

pub record LeavesRest (e : Event) : Type 0 where
  pub number_is : (values e).number ≡ 0
  pub start_stays : take (start_of e) (after e) ≡ take (start_of e) (before e)
  pub rest_stays : drop (values e).len (after e) ≡ drop (values e).len (before e)

abbrev pub RestKeeps : Type 0
RestKeeps = (e : Event) → ((q : Refusal) → Refuses e q → ⊥) → LeavesRest e
