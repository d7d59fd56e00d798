-- Fragmenting and reassembling a command, of the functions, from the same of the definitions.
-- Assumes nothing.
use mathlib.Core.Path.{◌≡◌, refl, sym, ap, ap₂, ◌∙◌}
use mathlib.Core.List.{List, [], ◌∷◌, map}
use Prim.Native.Nat.{ℕ, suc, ◌+◌, ◌≤◌, ◌<◌}
use native.Mathlib.Nat.{add-zero, zero-add, add-suc, suc-add}
use native.Mathlib.Omega.{arith}
use borrow.Author.Tests.{le-leb, lt-ltb}
use lib.ListN.{length, drop}
use lib.Seq.{take-append_seam}
use Rattle.octets.specs.Bytes.{Bytes, tabulate}
use Rattle.octets.specs.Write.{over}
use Rattle.octets.proofs.Tabulate.{tabulate_ext}
use Rattle.message_answer.specs.Answer.{Answer, gave, require◌else◌⨾◌, buffer}
use Rattle.std.specs.Prelude.{Result}
use Rattle.apdu.specs.declared.Header.{Header}
use Rattle.refusal.specs.declared.Refusal.{Refusal}
use Rattle.chain_command.specs.Fragment.{longest_field, max_fragment, fragment_count, fragment, fragment_command, fragment_answer}
use Rattle.chain_command.specs.Reassembly.{empty, reassemble_command, reassembly_buffer}
use Rattle.chain_command.specs.Chains.{fragments, Reassembled, reassemble_all}
use Rattle.chain_command.specs.declared.CommandChain.{CommandChain}
use Rattle.chain_command.proofs.Theorems.{whole_command}
use Rattle.demand_chaining.specs.Calls.{FragmentsCommand, ReassemblesCommand, header_given, field_given, size_asked, number_asked, fragment_before, fragment_after, field_after, apdu_in, apdu}
use Rattle.demand_chaining.specs.CommandChaining.{Asks, AsksAll, Handed, buffer_after, chain_after, ReassemblesCommands}

-- ---- one fragment

-- with room, a fragment that there is is given
gives : (h : Header) (field : Bytes) (size k room : ℕ) → length field ≤ longest_field → size ≤ max_fragment → k < fragment_count (length field) size
    → length (fragment h field size k) ≤ room → fragment_command h field size k room ≡ gave (fragment h field size k)
unfolding fragment_command require◌else◌⨾◌
gives h field size k room short small within fits =
    rw (
      le-leb size max_fragment small,
      le-leb (length field) longest_field short,
      lt-ltb k (fragment_count (length field) size) within,
      le-leb (length (fragment h field size k)) room fits,
    )

same_call : (h i : Header) (field bytes : Bytes) (size p k j room : ℕ) → h ≡ i → field ≡ bytes → size ≡ p → k ≡ j
    → fragment_command h field size k room ≡ fragment_command i bytes p j room
same_call h i field bytes size p k j room a b c d = rw (a, b, c, d)

-- what was given first is at the start of the buffer
in_buffer : (answer : Result ℕ Refusal) (held out bytes : Bytes) (a : Answer Bytes) → a ≡ gave bytes → answer ≡ fragment_answer a → out ≡ buffer (λ (b : Bytes). b) held a
    → apdu_in answer out ≡ bytes
unfolding buffer over
in_buffer answer held out bytes a g e f = rw (e, f, g) (take-append_seam bytes (drop (length bytes) held))

module _ (h : Header) (field : Bytes) (size : ℕ) (short : length field ≤ longest_field) (small : size ≤ max_fragment) where
  asked_given : (k : ℕ) (f : FragmentsCommand) → k < fragment_count (length field) size → Asks h field size k f → apdu f ≡ fragment h field size k
  asked_given k f within a =
      let room = length (fragment_before f) in
      in_buffer f.result (fragment_before f) (fragment_after f) (fragment h field size k) _
      (same_call (header_given f) h (field_given f) field (size_asked f) size (number_asked f) k room a.of_header a.of_field a.of_size a.of_number
      ∙ gives h field size k room short small within a.room) f.met.0 f.met.1

  -- ---- all of them

  asks_count : (k : ℕ) (fs : List FragmentsCommand) → AsksAll h field size k fs → k + length fs ≡ fragment_count (length field) size
  asks_count k [] a = add-zero k ∙ a
  asks_count k (f ∷ fs) a = add-suc k (length fs) ∙ sym (suc-add k (length fs)) ∙ asks_count (suc k) fs a.1

  all_given : (k : ℕ) (fs : List FragmentsCommand) → AsksAll h field size k fs → map (λ f. apdu f) fs ≡ tabulate (length fs) (λ i. fragment h field size (k + i))
  all_given k [] a = refl
  all_given k (f ∷ fs) a =
      ap₂ (λ (x : Bytes) (l : List Bytes). x ∷ l)
      (asked_given k f (omega (arith, asks_count (suc k) fs a.1)) a.0 ∙ ap (fragment h field size) (sym (add-zero k)))
      (all_given (suc k) fs a.1 ∙ tabulate_ext (length fs) (λ i b. ap (fragment h field size) (suc-add k i ∙ sym (add-suc k i))))

  fragments_given : (fs : List FragmentsCommand) → AsksAll h field size 0 fs → map (λ f. apdu f) fs ≡ fragments h field size
  unfolding fragments
  fragments_given fs a =
      all_given 0 fs a
      ∙ ap (λ (n : ℕ). tabulate n (λ i. fragment h field size (0 + i))) (sym (zero-add (length fs)) ∙ asks_count 0 fs a)
      ∙ tabulate_ext (fragment_count (length field) size) (λ i b. ap (fragment h field size) (zero-add i))

-- ---- reassembling

handed_is : (c : CommandChain) (held : Bytes) (fs : List FragmentsCommand) (rs : List ReassemblesCommand) → Handed c held fs rs
    → reassemble_all c held (map (λ f. apdu f) fs) ≡ record { answers = map (λ r. r.result.answer) rs; chain = chain_after c rs; held = buffer_after held rs }
unfolding reassemble_all
handed_is c held [] [] t = refl
handed_is c held [] (r ∷ rs) t = absurd t
handed_is c held (f ∷ fs) [] t = absurd t
handed_is c held (f ∷ fs) (r ∷ rs) t =
    let first : reassemble_command c (apdu f) (length held) ≡ r.result = sym (r.met.0 ∙ rw (t.0.0, t.0.1, t.0.2)) in
    let out : reassembly_buffer c (apdu f) held ≡ field_after r = sym (r.met.1 ∙ rw (t.0.0, t.0.1, t.0.2)) in
    let rest = handed_is r.result.next (field_after r) fs rs t.1 in
    rw (first, out, rest)

pub reassembles_commands : ReassemblesCommands
reassembles_commands h field size held fs rs some short small fits asks handed =
    let e = sym (handed_is empty held fs rs handed) ∙ ap (reassemble_all empty held) (fragments_given h field size short small fs asks) ∙ whole_command h field size held some short small fits in
    record {
      answers = ap (λ (x : Reassembled). x.answers) e;
      chain = ap (λ (x : Reassembled). x.chain) e;
      buffer = ap (λ (x : Reassembled). x.held) e;
    }
