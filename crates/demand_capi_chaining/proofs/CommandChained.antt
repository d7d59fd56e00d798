-- Fragmenting and reassembling a command by the calls from C, from the same of the functions below them: the number of a chain stands for the chain.
use mathlib.Core.Path.{◌≡◌, refl, sym, ap, ap₂, ◌∙◌}
use mathlib.Core.Bool.{Bool, true, false}
use mathlib.Core.List.{List, [], ◌∷◌, map}
use Prim.Native.Nat.{ℕ, suc, ◌<◌}
use native.Mathlib.Omega.{arith}
use borrow.Author.Tests.{ltb-true, ltb-false, ne_eqb}
use lib.Dec.{ltb}
use lib.ListN.{length, get_or, get_or-eq_default}
use Rattle.octets.specs.Bytes.{Bytes, IsBytes}
use Rattle.std.specs.Prelude.{Result, Ok, Err}
use Rattle.apdu.specs.declared.Header.{Header}
use Rattle.refusal.specs.Refusal.{number}
use Rattle.refusal.specs.declared.Refusal.{Refusal}
use Rattle.message_answer.specs.Answer.{Answer, refused, gave, buffer}
use Rattle.chain_command.specs.Apdu.{header_of, is_last}
use Rattle.chain_command.specs.Fragment.{fragment_answer}
use Rattle.chain_command.specs.Reassembly.{Reassembly, empty, total, reassembly_checks, taken, concluded, reassemble_command}
use Rattle.chain_command.specs.declared.CommandChain.{CommandChain}
use Rattle.chain_command.specs.declared.CommandPart.{CommandPart}
use Rattle.chain_command.specs.declared.CommandPart.TheVariants.{More, Whole}
use Rattle.capi_values.specs.ChainingValues.{reassembly_values}
use Rattle.capi_values.specs.declared.Values.{Values}
use Rattle.capi_fragment_command.specs.Call as FragmentCommand
use Rattle.capi_reassemble_command.specs.ChainNumbers.{chain_number, chain_of}
use Rattle.capi_reassemble_command.specs.Call as ReassembleCommand
use Rattle.capi_reassemble_command.proofs.ChainNumbers.{chain_back}
use Rattle.demand_chaining.specs.Calls as BelowCalls
use Rattle.demand_chaining.specs.CommandChaining as Below
use Rattle.demand_chaining.proofs.Theorems.{demand2_command_fields}
use Rattle.demand_capi_chaining.specs.Calls.{FragmentsCommand, fragment_command_given, fragment_command_left, ReassemblesCommand, reassemble_command_given, reassemble_command_left}
use Rattle.demand_capi_chaining.specs.CommandChaining.{AsksAll, apdu_in, Handed, buffer_after, chain_after, told, ReassemblesCommands}
use Rattle.demand_capi_chaining.proofs.Named.{fragment_command_named, reassemble_command_named, reassemble_command_bytes}
use Rattle.demand_capi_chaining.proofs.Below.{fragments_command_below, reassembles_command_below}
use Rattle.demand_capi_chaining.proofs.RefusalKept.{not_0}

abbrev fragment_below : FragmentsCommand → BelowCalls.FragmentsCommand
fragment_below f = fragments_command_below (fragment_command_given f)

abbrev reassemble_below : ReassemblesCommand → BelowCalls.ReassemblesCommand
reassemble_below r = reassembles_command_below (reassemble_command_given r)

-- ---- fragmenting

asks_below : (h : Header) (field : Bytes) (size k : ℕ) (fs : List FragmentsCommand) → AsksAll h field size k fs
    → Below.AsksAll h field size k (map fragment_below fs)
asks_below h field size k [] a = a
asks_below h field size k (f ∷ fs) a =
    let x = a.0 in (
      record { of_header = x.of_header; of_field = x.of_field; of_size = x.of_size; of_number = x.of_number; room = x.room },
      asks_below h field size (suc k) fs a.1,
    )

apdu_in_lem : (before : Bytes) (a : Answer Bytes) (l : FragmentCommand.Left) → l ≡ FragmentCommand.leaves before a
    → apdu_in l ≡ BelowCalls.apdu_in (fragment_answer a) (buffer (λ (b : Bytes). b) before a)
apdu_in_lem before (refused q) l e = rw (e, ne_eqb (number q) 0 (not_0 q))
apdu_in_lem before (gave b) l e = rw e

apdu_same : (f : FragmentsCommand) → apdu_in (fragment_command_left f) ≡ BelowCalls.apdu (fragment_below f)
apdu_same f =
    let g = fragment_command_given f in apdu_in_lem g.apdu (FragmentCommand.fragmented g) (fragment_command_left f) (fragment_command_named f)

-- ---- the chain that a number stands for

pub byte_at : (xs : Bytes) → IsBytes xs → (i : ℕ) → get_or xs i 0 < 256
byte_at xs b i = go (ltb i (length xs)) refl
  where
    go : (t : Bool) → ltb i (length xs) ≡ t → get_or xs i 0 < 256
    go true e = b i (ltb-true i (length xs) e)
    go false e = let z = get_or-eq_default xs 0 {n = i} (ltb-false i (length xs) e) in omega (arith, z)

module _ (c : CommandChain) (apdu : Bytes) (b : IsBytes apdu) where
  abbrev HeaderBytes : CommandChain → Type 0
  HeaderBytes x = (x.header.ins < 256) × (x.header.p1 < 256) × (x.header.p2 < 256)

  taken_bytes : (n : ℕ) (last : Bool) → HeaderBytes (taken (header_of apdu) n last).next
  unfolding taken
  taken_bytes n true = (omega arith, omega arith, omega arith)
  taken_bytes n false = (byte_at apdu b 1, byte_at apdu b 2, byte_at apdu b 3)

  concluded_bytes : (a : Answer (Unit {0})) → HeaderBytes (concluded c apdu a).next
  unfolding concluded
  concluded_bytes (refused q) = (omega arith, omega arith, omega arith)
  concluded_bytes (gave tt) = taken_bytes (total c apdu) (is_last apdu)

  left_back : (room : ℕ) → chain_of (chain_number (reassemble_command c apdu room).next) ≡ (reassemble_command c apdu room).next
  unfolding reassemble_command
  left_back room = let h = concluded_bytes (reassembly_checks c apdu room) in chain_back _ h.0 h.1 h.2

number_same : (r : ReassemblesCommand) → (reassemble_command_left r).chain ≡ chain_number (reassemble_below r).result.next
number_same r = ap (λ (l : ReassembleCommand.Left). l.chain) (reassemble_command_named r)

field_same : (r : ReassemblesCommand) → (reassemble_command_left r).field ≡ BelowCalls.field_after (reassemble_below r)
field_same r = ap (λ (l : ReassembleCommand.Left). l.field) (reassemble_command_named r)

chain_same : (r : ReassemblesCommand) → chain_of (reassemble_command_left r).chain ≡ (reassemble_below r).result.next
chain_same r =
    let g = reassemble_command_given r in
    ap chain_of (number_same r) ∙ left_back (chain_of g.chain) g.apdu (reassemble_command_bytes r) (length g.field)

-- ---- reassembling

handed_below : (n : ℕ) (held : Bytes) (c : CommandChain) (out : Bytes) (fs : List FragmentsCommand) (rs : List ReassemblesCommand)
    → chain_of n ≡ c → held ≡ out → Handed n held fs rs → Below.Handed c out (map fragment_below fs) (map reassemble_below rs)
handed_below n held c out [] [] e f t = tt
handed_below n held c out [] (r ∷ rs) e f t = absurd t
handed_below n held c out (f ∷ fs) [] e g t = absurd t
handed_below n held c out (f ∷ fs) (r ∷ rs) e g t = (
  (ap chain_of t.0.0 ∙ e, t.0.1 ∙ g, t.0.2 ∙ apdu_same f),
  handed_below (reassemble_command_left r).chain (reassemble_command_left r).field _ _ fs rs (chain_same r) (field_same r) t.1,
)

told_in : (a : Result CommandPart Refusal) (r : Reassembly) (field : Bytes) → r.answer ≡ a → told (ReassembleCommand.leaves r field) ≡ reassembly_values a
told_in (Ok (More n sw)) r field e = rw e
told_in (Ok (Whole n h)) r field e = rw e
told_in (Err q) r field e = rw e

told_same : (r : ReassemblesCommand) → told (reassemble_command_left r) ≡ reassembly_values (reassemble_below r).result.answer
told_same r =
    let x = reassemble_below r in
    ap told (reassemble_command_named r) ∙ told_in x.result.answer x.result (BelowCalls.field_after x) refl

all_told : (rs : List ReassemblesCommand)
    → map (λ r. told (reassemble_command_left r)) rs
    ≡ map reassembly_values (map (λ (x : BelowCalls.ReassemblesCommand). x.result.answer) (map reassemble_below rs))
all_told [] = refl
all_told (r ∷ rs) = ap₂ (λ (x : Values) (l : List Values). x ∷ l) (told_same r) (all_told rs)

chain_after_lem : (n : ℕ) (c : CommandChain) (rs : List ReassemblesCommand) → n ≡ chain_number c
    → chain_after n rs ≡ chain_number (Below.chain_after c (map reassemble_below rs))
chain_after_lem n c [] e = e
chain_after_lem n c (r ∷ rs) e = chain_after_lem (reassemble_command_left r).chain (reassemble_below r).result.next rs (number_same r)

buffer_after_lem : (held out : Bytes) (rs : List ReassemblesCommand) → held ≡ out → buffer_after held rs ≡ Below.buffer_after out (map reassemble_below rs)
buffer_after_lem held out [] e = e
buffer_after_lem held out (r ∷ rs) e = buffer_after_lem (reassemble_command_left r).field (BelowCalls.field_after (reassemble_below r)) rs (field_same r)

none : chain_of 0 ≡ empty
unfolding chain_of
none = refl

none_number : chain_number empty ≡ 0
unfolding chain_number
none_number = refl

pub reassembles_commands : ReassemblesCommands
reassembles_commands h field size held fs rs some short small fits asks handed =
    let d = demand2_command_fields h field size held (map fragment_below fs) (map reassemble_below rs) some short small fits
    (asks_below h field size 0 fs asks) (handed_below 0 held empty held fs rs none refl handed) in
    record {
      answers = all_told rs ∙ ap (map reassembly_values) d.answers;
      chain = chain_after_lem 0 empty rs (sym none_number) ∙ ap chain_number d.chain ∙ none_number;
      buffer = buffer_after_lem held held rs refl ∙ d.buffer;
    }
