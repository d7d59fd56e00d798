-- Demand 2: a command field that is fragmented, by any size that may be asked for, and reassembled, of the functions. Assumes nothing.
use Rattle.std.specs.Prelude.{◌≡◌, List, [], ◌∷◌, map, ℕ, suc, ◌≤◌, length}
use Rattle.octets.specs.Bytes.{Bytes}
use Rattle.octets.specs.Write.{over}
use Rattle.apdu.specs.declared.Header.{Header}
use Rattle.chain_command.specs.Fragment.{longest_field, max_fragment, fragment_count, fragment}
use Rattle.chain_command.specs.Reassembly.{empty}
use Rattle.chain_command.specs.Chains.{answers_to}
use Rattle.chain_command.specs.declared.CommandChain.{CommandChain}
use Rattle.demand_chaining.specs.Calls.{FragmentsCommand, ReassemblesCommand, header_given, field_given, size_asked, number_asked, fragment_before, chain_given, apdu_given, field_before, field_after, apdu}

-- fragment k was asked for, with room for it
pub record Asks (h : Header) (field : Bytes) (size k : ℕ) (f : FragmentsCommand) : Type 0 where
  pub of_header : header_given f ≡ h
  pub of_field : field_given f ≡ field
  pub of_size : size_asked f ≡ size
  pub of_number : number_asked f ≡ k
  pub room : length (fragment h field size k) ≤ length (fragment_before f)

-- the fragments from k on, to the last
abbrev pub AsksAll : Header → Bytes → ℕ → ℕ → List FragmentsCommand → Type 0
AsksAll h field size k [] = k ≡ fragment_count (length field) size
AsksAll h field size k (f ∷ fs) = Asks h field size k f × AsksAll h field size (suc k) fs

-- each APDU was handed on, with the chain and the buffer that the call before it left
abbrev pub Handed : CommandChain → Bytes → List FragmentsCommand → List ReassemblesCommand → Type 0
Handed c held [] [] = Unit {0}
Handed c held [] (r ∷ rs) = ⊥
Handed c held (f ∷ fs) [] = ⊥
Handed c held (f ∷ fs) (r ∷ rs) =
    ((chain_given r ≡ c) × (field_before r ≡ held) × (apdu_given r ≡ apdu f)) × Handed r.result.next (field_after r) fs rs

-- the buffer, and the chain, after the last
abbrev pub buffer_after : Bytes → List ReassemblesCommand → Bytes
buffer_after held [] = held
buffer_after held (r ∷ rs) = buffer_after (field_after r) rs

abbrev pub chain_after : CommandChain → List ReassemblesCommand → CommandChain
chain_after c [] = c
chain_after c (r ∷ rs) = chain_after r.result.next rs

pub record CommandReassembled (h : Header) (field : Bytes) (size : ℕ) (held : Bytes) (rs : List ReassemblesCommand) : Type 0 where
  pub answers : map (λ r. r.result.answer) rs ≡ answers_to h (length field) size
  pub chain : chain_after empty rs ≡ empty
  pub buffer : buffer_after held rs ≡ over held field

abbrev pub ReassemblesCommands : Type 0
ReassemblesCommands =
    (h : Header) (field : Bytes) (size : ℕ) (held : Bytes) (fs : List FragmentsCommand) (rs : List ReassemblesCommand)
    → 1 ≤ length field → length field ≤ longest_field → size ≤ max_fragment → length field ≤ length held
    → AsksAll h field size 0 fs → Handed empty held fs rs → CommandReassembled h field size held rs
