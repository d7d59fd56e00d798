-- Rules 7.1, 7.3 and 7.5: all the fragments of a command field, one after another, and the chains that fragments can lead to.
use Rattle.std.specs.Prelude.{◌≡◌, Result, Ok, Err, Bool, true, false, List, [], ◌∷◌, ◌++◌, ℕ, suc, ◌*◌, ◌-◌, ◌≤◌, length}
use Rattle.octets.specs.Bytes.{Bytes, tabulate}
use Rattle.std.specs.Prelude.{if◌then◌else◌}
use Rattle.octets.specs.Write.{over}
use Rattle.apdu.specs.declared.Header.{Header}
use Rattle.apdu.specs.declared.StatusWord.{StatusWord}
use Rattle.apdu.specs.Apdu.{status}
use Rattle.refusal.specs.declared.Refusal.{Refusal}
use Rattle.refusal.specs.declared.Refusal.TheVariants.{Malformed, BrokenChain}
use Rattle.chain_command.specs.Apdu.{fragment_apdu, header_of, data_of, is_last, well_formed}
use Rattle.chain_command.specs.Fragment.{longest_field, max_fragment, fragment_size, fragment_count, fragment}
use Rattle.chain_command.specs.Reassembly.{empty, possible, reassemble_command, reassembly_buffer}
use Rattle.chain_command.specs.declared.CommandChain.{CommandChain}
use Rattle.chain_command.specs.declared.CommandPart.{CommandPart}
use Rattle.chain_command.specs.declared.CommandPart.TheVariants.{More, Whole}

-- ---- the APDUs that are taken

-- the exact shapes, and no others: a well-formed APDU is the writing of its header and its data
abbrev pub ExactShapes : Type 0
ExactShapes =
    (apdu : Bytes) → well_formed apdu ≡ true
    → (apdu ≡ fragment_apdu (is_last apdu) (header_of apdu) (data_of apdu)) × (1 ≤ length (data_of apdu)) × (length (data_of apdu) ≤ 255)

abbrev pub WrittenAreWellFormed : Type 0
WrittenAreWellFormed =
    (last : Bool) (h : Header) (d : Bytes) → 1 ≤ length d → length d ≤ 255 → well_formed (fragment_apdu last h d) ≡ true

-- ---- a whole command

unfoldable pub fragments : Header → Bytes → ℕ → List Bytes
fragments h field p = tabulate (fragment_count (length field) p) (fragment h field p)

-- the answers to APDUs, the chain that they leave, and the caller's buffer
pub record Reassembled : Type 0 where
  pub answers : List (Result CommandPart Refusal)
  pub chain : CommandChain
  pub held : Bytes

-- each APDU is taken with the chain and the buffer that the one before it left
unfoldable pub reassemble_all : CommandChain → Bytes → List Bytes → Reassembled
reassemble_all c held [] = record { answers = []; chain = c; held = held }
reassemble_all c held (apdu ∷ apdus) =
    let first = reassemble_command c apdu (length held) in
    let rest = reassemble_all first.next (reassembly_buffer c apdu held) apdus in
    record { answers = first.answer ∷ rest.answers; chain = rest.chain; held = rest.held }

-- 90 00 to each fragment but the last, which gives the field's length and the header
unfoldable pub answers_to : Header → ℕ → ℕ → List (Result CommandPart Refusal)
answers_to h n p =
    tabulate (fragment_count n p - 1) (λ k. Ok (More (suc k * fragment_size p) (status 0x90 0x00))) ++ Ok (Whole n h) ∷ []

-- the fragments of every field, of every size that may be asked for: the field, the header, and an empty chain
abbrev pub Reassembles : Type 0
Reassembles =
    (h : Header) (field : Bytes) (p : ℕ) (held : Bytes)
    → 1 ≤ length field → length field ≤ longest_field → p ≤ max_fragment → length field ≤ length held
    → reassemble_all empty held (fragments h field p)
    ≡ record { answers = answers_to h (length field) p; chain = empty; held = over held field }

-- ---- the chains that fragments can lead to

pub data Reached : CommandChain → Type 0 where
  none : Reached empty
  more : (c : CommandChain) (apdu : Bytes) (room n : ℕ) (sw : StatusWord) → Reached c → (reassemble_command c apdu room).answer ≡ Ok (More n sw)
      → Reached (reassemble_command c apdu room).next

-- every call leaves a possible chain, whatever it was given
abbrev pub LeavesPossible : Type 0
LeavesPossible = (c : CommandChain) (apdu : Bytes) (room : ℕ) → possible (reassemble_command c apdu room).next ≡ true

-- the chains that are reached are the possible ones
abbrev pub ReachedArePossible : Type 0
ReachedArePossible = (c : CommandChain) → Reached c → possible c ≡ true

abbrev pub PossibleAreReached : Type 0
PossibleAreReached = (c : CommandChain) → possible c ≡ true → Reached c

-- with any other, every APDU is refused
abbrev pub OthersAreRefused : Type 0
OthersAreRefused =
    (c : CommandChain) (apdu : Bytes) (room : ℕ) → possible c ≡ false
    → (reassemble_command c apdu room).answer ≡ Err (if well_formed apdu then BrokenChain else Malformed)
