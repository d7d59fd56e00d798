-- Rules 7.6, 7.7 and 7.9: a response field asked for until it is whole, and the chains that fragments can lead to.
use Rattle.std.specs.Prelude.{◌≡◌, Result, Ok, Err, true, false, List, [], ◌∷◌, ◌++◌, ℕ, zero, suc, ◌*◌, ◌-◌, ◌≤◌, length, get_or}
use Rattle.octets.specs.Bytes.{Bytes, tabulate}
use Rattle.std.specs.Prelude.{if◌then◌else◌}
use Rattle.octets.specs.Write.{over}
use Rattle.apdu.specs.declared.StatusWord.{StatusWord}
use Rattle.refusal.specs.declared.Refusal.{Refusal}
use Rattle.refusal.specs.declared.Refusal.TheVariants.{Malformed, BrokenChain}
use Rattle.message_answer.specs.Message.{more_sw1}
use Rattle.message_permission.specs.Permission.{status_permitted}
use Rattle.chain_parts.specs.Parts.{ceiling}
use Rattle.chain_response.specs.Fragment.{longest_field, announced, next, fragment}
use Rattle.chain_response.specs.Reassembly.{data_of, status_of, well_formed, empty, get_response, possible, reassemble_response, reassembly_buffer}
use Rattle.chain_response.specs.declared.ResponseChain.{ResponseChain}
use Rattle.chain_response.specs.declared.ResponsePart.{ResponsePart}
use Rattle.chain_response.specs.declared.ResponsePart.TheVariants.{More, Whole}

-- ---- the fragments that are taken

-- a well-formed fragment is at most 256 bytes of data, some where more follow, and a status word
abbrev pub ExactShapes : Type 0
ExactShapes =
    (bytes : Bytes) → well_formed bytes ≡ true
    → (bytes ≡ data_of bytes ++ (status_of bytes).sw1 ∷ (status_of bytes).sw2 ∷ [])
    × (length (data_of bytes) ≤ 256)
    × ((status_of bytes).sw1 ≡ more_sw1 → 1 ≤ length (data_of bytes))

abbrev pub WrittenAreWellFormed : Type 0
WrittenAreWellFormed =
    (d : Bytes) (sw1 sw2 : ℕ) → (sw1 ≡ more_sw1 → 1 ≤ length d) → length d ≤ 256 → well_formed (d ++ sw1 ∷ sw2 ∷ []) ≡ true

-- ---- a whole response

-- the indices that were asked for, the answers to the fragments, the chain that they leave, and the caller's buffer
pub record Reassembled : Type 0 where
  pub indices : List ℕ
  pub answers : List (Result ResponsePart Refusal)
  pub chain : ResponseChain
  pub held : Bytes

-- Le of the GET RESPONSE that is sent next; none is sent after the whole, or after a refusal
abbrev pub le_after : Result ResponsePart Refusal → ℕ
le_after (Ok (More n le)) = get_or (get_response le) 4 0
le_after (Ok (Whole n sw)) = 0x00
le_after (Err r) = 0x00

-- n requests, the first for le bytes from index at on, each answered by a fragment that is taken with the chain and the buffer that the one before it left
unfoldable pub requests : StatusWord → Bytes → ℕ → ℕ → ℕ → ResponseChain → Bytes → Reassembled
requests sw field zero at le c held = record { indices = []; answers = []; chain = c; held = held }
requests sw field (suc n) at le c held =
    let first = reassemble_response c (fragment sw field at le) (length held) in
    let rest =
    requests sw field n (next field at le) (le_after first.answer) first.next (reassembly_buffer c (fragment sw field at le) held) in
    record { indices = at ∷ rest.indices; answers = first.answer ∷ rest.answers; chain = rest.chain; held = rest.held }

-- more to come after each fragment but the last, which gives the field's length and the status word
unfoldable pub answers_to : StatusWord → ℕ → List (Result ResponsePart Refusal)
answers_to sw n =
    tabulate (ceiling n 256 - 1) (λ k. Ok (More (suc k * 256) (announced (n - suc k * 256)))) ++ Ok (Whole n sw) ∷ []

-- "A response of F bytes, F at least 1, asked for in this way is whole after exactly ⌈F/256⌉ pieces": the last of that many, and none before it
abbrev pub Reassembles : Type 0
Reassembles =
    (sw : StatusWord) (field held : Bytes)
    → status_permitted sw ≡ true → 1 ≤ length field → length field ≤ longest_field → length field ≤ length held
    → requests sw field (ceiling (length field) 256) 0 0x00 empty held
    ≡ record {
      indices = tabulate (ceiling (length field) 256) (λ k. k * 256);
      answers = answers_to sw (length field);
      chain = empty;
      held = over held field;
    }

-- ---- the chains that fragments can lead to

pub data Reached : ResponseChain → Type 0 where
  none : Reached empty
  more : (c : ResponseChain) (bytes : Bytes) (room n le : ℕ) → Reached c → (reassemble_response c bytes room).answer ≡ Ok (More n le)
      → Reached (reassemble_response c bytes room).next

-- every call leaves a possible chain, whatever it was given
abbrev pub LeavesPossible : Type 0
LeavesPossible = (c : ResponseChain) (bytes : Bytes) (room : ℕ) → possible (reassemble_response c bytes room).next ≡ true

-- the chains that are reached are the possible ones
abbrev pub ReachedArePossible : Type 0
ReachedArePossible = (c : ResponseChain) → Reached c → possible c ≡ true

abbrev pub PossibleAreReached : Type 0
PossibleAreReached = (c : ResponseChain) → possible c ≡ true → Reached c

-- with any other, every fragment is refused
abbrev pub OthersAreRefused : Type 0
OthersAreRefused =
    (c : ResponseChain) (bytes : Bytes) (room : ℕ) → possible c ≡ false
    → (reassemble_response c bytes room).answer ≡ Err (if well_formed bytes then BrokenChain else Malformed)
