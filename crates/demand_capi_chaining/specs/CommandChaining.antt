-- Demand 2, of the calls from C: a command field is fragmented, by any size that may be asked for, and reassembled.
use Rattle.std.specs.Prelude.{◌≡◌, false, List, [], ◌∷◌, map, ℕ, suc, ◌≤◌, eqb, length, take}
use Rattle.octets.specs.Bytes.{Bytes}
use Rattle.std.specs.Prelude.{if◌then◌else◌}
use Rattle.octets.specs.Write.{over}
use Rattle.apdu.specs.declared.Header.{Header}
use Rattle.apdu.specs.Apdu.{header}
use Rattle.chain_command.specs.Fragment.{longest_field, max_fragment, fragment_count, fragment}
use Rattle.chain_command.specs.Chains.{answers_to}
use Rattle.capi_values.specs.ChainingValues.{reassembly_values}
use Rattle.capi_values.specs.declared.Values.{Values}
use Rattle.capi_fragment_command.specs.Call.{Left as FragmentLeft}
use Rattle.capi_reassemble_command.specs.Call.{Left as ReassembleLeft}
use Rattle.demand_capi_chaining.specs.Calls.{FragmentsCommand, fragment_command_given, fragment_command_left, ReassemblesCommand, reassemble_command_given, reassemble_command_left}

-- fragment k was asked for, with room for it
pub record Asks (h : Header) (field : Bytes) (size k : ℕ) (f : FragmentsCommand) : Type 0 where
  pub of_header : (fragment_command_given f).header ≡ h
  pub of_field : (fragment_command_given f).field ≡ field
  pub of_size : (fragment_command_given f).size ≡ size
  pub of_number : (fragment_command_given f).number ≡ k
  pub room : length (fragment h field size k) ≤ length (fragment_command_given f).apdu

-- the fragments from k on, to the last
abbrev pub AsksAll : Header → Bytes → ℕ → ℕ → List FragmentsCommand → Type 0
AsksAll h field size k [] = k ≡ fragment_count (length field) size
AsksAll h field size k (f ∷ fs) = Asks h field size k f × AsksAll h field size (suc k) fs

-- the APDU that it gave: as many bytes as it says, from the start of the buffer; nothing where it was refused
abbrev pub apdu_in : FragmentLeft → Bytes
apdu_in l = if eqb l.number 0 then take l.written l.apdu else []

-- each APDU was handed on, with the chain's number and the buffer that the call before it left
abbrev pub Handed : ℕ → Bytes → List FragmentsCommand → List ReassemblesCommand → Type 0
Handed chain held [] [] = Unit {0}
Handed chain held [] (r ∷ rs) = ⊥
Handed chain held (f ∷ fs) [] = ⊥
Handed chain held (f ∷ fs) (r ∷ rs) =
    let g = reassemble_command_given r in
    let l = reassemble_command_left r in
    ((g.chain ≡ chain) × (g.field ≡ held) × (g.apdu ≡ apdu_in (fragment_command_left f)))
    × Handed l.chain l.field fs rs

-- the buffer, and the chain's number, after the last
abbrev pub buffer_after : Bytes → List ReassemblesCommand → Bytes
buffer_after held [] = held
buffer_after held (r ∷ rs) = buffer_after (reassemble_command_left r).field rs

abbrev pub chain_after : ℕ → List ReassemblesCommand → ℕ
chain_after chain [] = chain
chain_after chain (r ∷ rs) = chain_after (reassemble_command_left r).chain rs

-- the numbers that it gave
abbrev pub told : ReassembleLeft → Values
told l =
    record {
      number = l.number;
      len = l.written;
      status = l.sw;
      le = false;
      header = header l.ins l.p1 l.p2;
      next = 0;
    }

-- 90 00 to each fragment but the last, which gives the field's length and the header; and the empty chain, 0
pub record CommandReassembled (h : Header) (field : Bytes) (size : ℕ) (held : Bytes)
    (rs : List ReassemblesCommand) : Type 0 where
  pub answers : map (λ r. told (reassemble_command_left r)) rs ≡ map reassembly_values (answers_to h (length field) size)
  pub chain : chain_after 0 rs ≡ 0
  pub buffer : buffer_after held rs ≡ over held field

abbrev pub ReassemblesCommands : Type 0
ReassemblesCommands =
    (h : Header) (field : Bytes) (size : ℕ) (held : Bytes) (fs : List FragmentsCommand) (rs : List ReassemblesCommand)
    → 1 ≤ length field → length field ≤ longest_field → size ≤ max_fragment → length field ≤ length held
    → AsksAll h field size 0 fs → Handed 0 held fs rs → CommandReassembled h field size held rs
