-- Demand 2, of the calls from C: a response field that is asked for fragment by fragment, and reassembled.
use Rattle.std.specs.Prelude.{◌≡◌, true, List, [], ◌∷◌, map, ℕ, ◌≤◌, eqb, length, take}
use Rattle.octets.specs.Bytes.{Bytes}
use Rattle.std.specs.Prelude.{if◌then◌else◌}
use Rattle.octets.specs.Write.{over}
use Rattle.apdu.specs.declared.StatusWord.{StatusWord}
use Rattle.apdu.specs.Apdu.{status_of}
use Rattle.message_answer.specs.Message.{more_sw1}
use Rattle.message_permission.specs.Permission.{status_permitted}
use Rattle.chain_parts.specs.Parts.{ceiling}
use Rattle.chain_response.specs.Fragment.{longest_field, fragment}
use Rattle.chain_response.specs.Chains.{answers_to}
use Rattle.capi_values.specs.Values.{given}
use Rattle.capi_values.specs.ChainingValues.{response_reassembly_values}
use Rattle.capi_values.specs.declared.Values.{Values}
use Rattle.capi_fragment_response.specs.Call.{Left as FragmentLeft}
use Rattle.capi_reassemble_response.specs.Call.{Left as ReassembleLeft}
use Rattle.demand_capi_chaining.specs.Calls.{FragmentsResponse, fragment_response_given, fragment_response_left, ReassemblesResponse, reassemble_response_given, reassemble_response_left}

-- the fragment from index at on was asked for with le, with room for it
pub record Asks (sw : StatusWord) (field : Bytes) (at le : ℕ) (f : FragmentsResponse) : Type 0 where
  pub of_status : (fragment_response_given f).status ≡ sw
  pub of_field : (fragment_response_given f).field ≡ field
  pub of_index : (fragment_response_given f).at ≡ at
  pub of_le : (fragment_response_given f).le ≡ le
  pub room : length (fragment sw field at le) ≤ length (fragment_response_given f).apdu

-- the fragment that it gave: as many bytes as it says, from the start of the buffer; nothing where it was refused
abbrev pub bytes_in : FragmentLeft → Bytes
bytes_in l = if eqb l.number 0 then take l.written l.apdu else []

-- Le of the GET RESPONSE that is sent next: SW2 where SW1 is 61; else none is sent
abbrev pub le_after : ReassembleLeft → ℕ
le_after l = if eqb (status_of l.sw).sw1 more_sw1 then (status_of l.sw).sw2 else 0x00

-- each fragment was asked for at the index and with the number that the calls before it gave, and handed on with the
-- chain's number and the buffer that they left
abbrev pub Handed : StatusWord → Bytes → ℕ → ℕ → ℕ → Bytes → List FragmentsResponse → List ReassemblesResponse → Type 0
Handed sw field at le chain held [] [] = Unit {0}
Handed sw field at le chain held [] (r ∷ rs) = ⊥
Handed sw field at le chain held (f ∷ fs) [] = ⊥
Handed sw field at le chain held (f ∷ fs) (r ∷ rs) =
    let g = reassemble_response_given r in
    let l = reassemble_response_left r in
    (Asks sw field at le f × (g.chain ≡ chain) × (g.field ≡ held) × (g.apdu ≡ bytes_in (fragment_response_left f)))
    × Handed sw field (fragment_response_left f).next (le_after l) l.chain l.field fs rs

-- the buffer, and the chain's number, after the last
abbrev pub buffer_after : Bytes → List ReassemblesResponse → Bytes
buffer_after held [] = held
buffer_after held (r ∷ rs) = buffer_after (reassemble_response_left r).field rs

abbrev pub chain_after : ℕ → List ReassemblesResponse → ℕ
chain_after chain [] = chain
chain_after chain (r ∷ rs) = chain_after (reassemble_response_left r).chain rs

-- the numbers that it gave
abbrev pub told : ReassembleLeft → Values
told l = given l.number l.written l.sw

-- 61 and the number to ask for after each fragment but the last, which gives the field's length and the status word;
-- and the empty chain, 0
pub record ResponseReassembled (sw : StatusWord) (field held : Bytes) (rs : List ReassemblesResponse) : Type 0 where
  pub answers : map (λ r. told (reassemble_response_left r)) rs
      ≡ map response_reassembly_values (answers_to sw (length field))
  pub chain : chain_after 0 rs ≡ 0
  pub buffer : buffer_after held rs ≡ over held field

-- it takes ⌈F/256⌉ fragments
abbrev pub ReassemblesResponses : Type 0
ReassemblesResponses =
    (sw : StatusWord) (field held : Bytes) (fs : List FragmentsResponse) (rs : List ReassemblesResponse)
    → status_permitted sw ≡ true → 1 ≤ length field → length field ≤ longest_field → length field ≤ length held
    → length rs ≡ ceiling (length field) 256 → Handed sw field 0 0x00 0 held fs rs
    → ResponseReassembled sw field held rs
