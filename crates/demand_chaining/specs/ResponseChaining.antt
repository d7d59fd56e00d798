-- Demand 2: a response field that is asked for fragment by fragment, and reassembled, of the functions. Assumes nothing.
use Rattle.std.specs.Prelude.{◌≡◌, true, List, [], ◌∷◌, map, ℕ, ◌≤◌, length}
use Rattle.octets.specs.Bytes.{Bytes}
use Rattle.octets.specs.Write.{over}
use Rattle.apdu.specs.declared.StatusWord.{StatusWord}
use Rattle.message_permission.specs.Permission.{status_permitted}
use Rattle.chain_parts.specs.Parts.{ceiling}
use Rattle.chain_response.specs.Fragment.{longest_field, fragment}
use Rattle.chain_response.specs.Reassembly.{empty}
use Rattle.chain_response.specs.Chains.{le_after, answers_to}
use Rattle.chain_response.specs.declared.ResponseChain.{ResponseChain}
use Rattle.demand_chaining.specs.Calls.{FragmentsResponse, ReassemblesResponse, status_given, response_field_given, index_asked, le_asked, response_fragment_before, response_chain_given, bytes_given, response_field_before, response_field_after, bytes, next_in}

-- the fragment from index at on was asked for with le, with room for it
pub record Asks (sw : StatusWord) (field : Bytes) (at le : ℕ) (f : FragmentsResponse) : Type 0 where
  pub of_status : status_given f ≡ sw
  pub of_field : response_field_given f ≡ field
  pub of_index : index_asked f ≡ at
  pub of_le : le_asked f ≡ le
  pub room : length (fragment sw field at le) ≤ length (response_fragment_before f)

-- each fragment was asked for at the index and with the number that the calls before it gave, and handed on with the chain and the buffer that they left
abbrev pub Handed : StatusWord → Bytes → ℕ → ℕ → ResponseChain → Bytes → List FragmentsResponse → List ReassemblesResponse → Type 0
Handed sw field at le c held [] [] = Unit {0}
Handed sw field at le c held [] (r ∷ rs) = ⊥
Handed sw field at le c held (f ∷ fs) [] = ⊥
Handed sw field at le c held (f ∷ fs) (r ∷ rs) =
    (Asks sw field at le f × (response_chain_given r ≡ c) × (response_field_before r ≡ held) × (bytes_given r ≡ bytes f))
    × Handed sw field (next_in f.result) (le_after r.result.answer) r.result.next (response_field_after r) fs rs

-- the buffer, and the chain, after the last
abbrev pub buffer_after : Bytes → List ReassemblesResponse → Bytes
buffer_after held [] = held
buffer_after held (r ∷ rs) = buffer_after (response_field_after r) rs

abbrev pub chain_after : ResponseChain → List ReassemblesResponse → ResponseChain
chain_after c [] = c
chain_after c (r ∷ rs) = chain_after r.result.next rs

pub record ResponseReassembled (sw : StatusWord) (field held : Bytes) (rs : List ReassemblesResponse) : Type 0 where
  pub answers : map (λ r. r.result.answer) rs ≡ answers_to sw (length field)
  pub chain : chain_after empty rs ≡ empty
  pub buffer : buffer_after held rs ≡ over held field

-- it takes ⌈F/256⌉ fragments
abbrev pub ReassemblesResponses : Type 0
ReassemblesResponses =
    (sw : StatusWord) (field held : Bytes) (fs : List FragmentsResponse) (rs : List ReassemblesResponse)
    → status_permitted sw ≡ true → 1 ≤ length field → length field ≤ longest_field → length field ≤ length held
    → length rs ≡ ceiling (length field) 256 → Handed sw field 0 0x00 empty held fs rs → ResponseReassembled sw field held rs
