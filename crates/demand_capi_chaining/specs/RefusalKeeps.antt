-- Demand 1, of fragmenting and reassembling, of the calls from C: a refusal has a number of its call's line and leaves
-- the caller's buffer as it was; it tells no length but the one that is needed, and drops the chain. An answer that is
-- no refusal leaves the bytes of the buffer past what it writes.
use Rattle.std.specs.Prelude.{◌≡◌, ℕ, ◌<◌, length, take, drop}
use mathlib.Core.List.{List, [], ◌∷◌, Memᴰ}
use Rattle.octets.specs.Bytes.{Bytes}
use Rattle.capi_reassemble_command.specs.ChainNumbers.{chain_of}
use Rattle.demand_capi_chaining.specs.Calls.{FragmentsCommand, fragment_command_given, fragment_command_left, ReassemblesCommand, reassemble_command_given, reassemble_command_left, FragmentsResponse, fragment_response_given, fragment_response_left, ReassemblesResponse, reassemble_response_given, reassemble_response_left, GetsResponse, get_response_given, get_response_left}

pub data Event : Type 0 where
  fragments_command : FragmentsCommand → Event
  reassembles_command : ReassemblesCommand → Event
  fragments_response : FragmentsResponse → Event
  reassembles_response : ReassemblesResponse → Event
  gets_response : GetsResponse → Event

-- the refusals of each call; their order is computed in proofs/Answers of chain_command and chain_response
abbrev pub order : Event → List ℕ
order (fragments_command c) = 15 ∷ 4 ∷ 14 ∷ 6 ∷ []
order (reassembles_command c) = 7 ∷ 14 ∷ 4 ∷ 6 ∷ []
order (fragments_response c) = 3 ∷ 4 ∷ 14 ∷ 6 ∷ []
order (reassembles_response c) = 7 ∷ 14 ∷ 4 ∷ 6 ∷ []
order (gets_response c) = 6 ∷ []

-- its result
abbrev pub number : Event → ℕ
number (fragments_command c) = (fragment_command_left c).number
number (reassembles_command c) = (reassemble_command_left c).number
number (fragments_response c) = (fragment_response_left c).number
number (reassembles_response c) = (reassemble_response_left c).number
number (gets_response c) = (get_response_left c).number

-- the caller's buffer, before and after
abbrev pub before : Event → Bytes
before (fragments_command c) = (fragment_command_given c).apdu
before (reassembles_command c) = (reassemble_command_given c).field
before (fragments_response c) = (fragment_response_given c).apdu
before (reassembles_response c) = (reassemble_response_given c).field
before (gets_response c) = (get_response_given c).apdu

abbrev pub after : Event → Bytes
after (fragments_command c) = (fragment_command_left c).apdu
after (reassembles_command c) = (reassemble_command_left c).field
after (fragments_response c) = (fragment_response_left c).apdu
after (reassembles_response c) = (reassemble_response_left c).field
after (gets_response c) = (get_response_left c).apdu

-- the length that it told
abbrev pub written : Event → ℕ
written (fragments_command c) = (fragment_command_left c).written
written (reassembles_command c) = (reassemble_command_left c).written
written (fragments_response c) = (fragment_response_left c).written
written (reassembles_response c) = (reassemble_response_left c).written
written (gets_response c) = (get_response_left c).written

-- ---- a refusal

-- every other number that the caller has from the call is 0: chain, status word, header, next index
abbrev pub Dropped : Event → Type 0
Dropped (fragments_command c) = Unit {0}
Dropped (reassembles_command c) =
    let l = reassemble_command_left c in (l.chain ≡ 0) × (l.sw ≡ 0) × (l.ins ≡ 0) × (l.p1 ≡ 0) × (l.p2 ≡ 0)
Dropped (fragments_response c) = (fragment_response_left c).next ≡ 0
Dropped (reassembles_response c) = let l = reassemble_response_left c in (l.chain ≡ 0) × (l.sw ≡ 0)
Dropped (gets_response c) = Unit {0}

pub record Keeps (e : Event) : Type 0 where
  pub in_order : Memᴰ (number e) (order e)
  pub output : after e ≡ before e
  pub no_length : (number e ≡ 6 → ⊥) → written e ≡ 0
  pub needed : number e ≡ 6 → length (before e) < written e
  pub dropped : Dropped e

abbrev pub RefusalKeeps : Type 0
RefusalKeeps = (e : Event) → (number e ≡ 0 → ⊥) → Keeps e

-- ---- an answer that is no refusal; reassembling keeps also the bytes before those that it writes

abbrev pub start_of : Event → ℕ
start_of (fragments_command c) = 0
start_of (reassembles_command c) = (chain_of (reassemble_command_given c).chain).len
start_of (fragments_response c) = 0
start_of (reassembles_response c) = (reassemble_response_given c).chain
start_of (gets_response c) = 0

pub record LeavesRest (e : Event) : Type 0 where
  pub start_stays : take (start_of e) (after e) ≡ take (start_of e) (before e)
  pub rest_stays : drop (written e) (after e) ≡ drop (written e) (before e)

abbrev pub RestKeeps : Type 0
RestKeeps = (e : Event) → number e ≡ 0 → LeavesRest e
