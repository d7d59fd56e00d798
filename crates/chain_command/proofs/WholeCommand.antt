-- The fragments of a field, reassembled in order, give the field: after k of them its first k·p bytes stand in the buffer.
-- Assumes nothing.
use mathlib.Core.Path.{◌≡◌, refl, sym, ap, ap₂, subst, ◌∙◌}
use mathlib.Core.Bool.{Bool, true, false}
use mathlib.Core.List.{List, [], ◌∷◌, ◌++◌}
use Prim.Native.Nat.{ℕ, zero, suc, ◌+◌, ◌*◌, ◌-◌, ◌≤◌, ◌<◌}
use native.Mathlib.Nat.{add-zero, zero-add, add-suc, suc-add, zero-mul, suc-mul}
use native.Mathlib.Omega.{arith}
use borrow.Author.Tests.{eq-eqb, ne_eqb}
use lib.ListN.{length, take, drop, length-drop, take-append-drop}
use lib.Seq.{length-take-le, take_all, take-add}
use Rattle.octets.specs.Bytes.{Bytes, tabulate}
use Rattle.octets.specs.Write.{over, put}
use Rattle.octets.proofs.Tabulate.{tabulate_ext}
use Rattle.octets.proofs.Writing.{over_nil, length_over, put_over}
use Rattle.std.specs.Prelude.{Result, Ok}
use Rattle.apdu.specs.declared.Header.{Header}
use Rattle.apdu.specs.Apdu.{status}
use Rattle.refusal.specs.declared.Refusal.{Refusal}
use Rattle.message_answer.specs.Message.{max_command_field}
use Rattle.chain_command.specs.Apdu.{fragment_apdu}
use Rattle.chain_command.specs.Fragment.{longest_field, max_fragment, fragment_size, fragment_count, fragment}
use Rattle.chain_command.specs.Reassembly.{Reassembly, empty, chain, possible, continues, taken, reassemble_command, reassembly_buffer}
use Rattle.chain_command.specs.Chains.{fragments, Reassembled, reassemble_all, answers_to, Reassembles}
use Rattle.chain_command.specs.declared.CommandChain.{CommandChain}
use Rattle.chain_command.specs.declared.CommandPart.{CommandPart}
use Rattle.chain_command.specs.declared.CommandPart.TheVariants.{More, Whole}
use Rattle.chain_parts.proofs.Ceiling.{starts_within, below_ceiling, ends_with_last}
use Rattle.chain_command.proofs.Sizes.{sized}
use Rattle.chain_command.proofs.PossibleChains.{possible_some, follows_itself}
use Rattle.chain_command.proofs.TakenFragment.{taken_answer, taken_data}

-- one APDU, and the rest
one_more : (c : CommandChain) (held apdu : Bytes) (apdus : List Bytes) (r : Reassembly) (next : Bytes) (rest : Reassembled)
    → reassemble_command c apdu (length held) ≡ r → reassembly_buffer c apdu held ≡ next → reassemble_all r.next next apdus ≡ rest
    → reassemble_all c held (apdu ∷ apdus) ≡ record { answers = r.answer ∷ rest.answers; chain = rest.chain; held = rest.held }
unfolding reassemble_all
one_more c held apdu apdus r next rest e f g = rw (e, f, g)

-- ---- the two kinds of fragment

module _ (h : Header) (field : Bytes) (p k : ℕ) where
  fragment_is_last : suc k ≡ fragment_count (length field) p → length field ≤ k * fragment_size p + fragment_size p
      → fragment h field p k ≡ fragment_apdu true h (drop (k * fragment_size p) field)
  unfolding fragment
  fragment_is_last e ends =
      rw (eq-eqb (suc k) (fragment_count (length field) p) e)
      (ap (fragment_apdu true h) (take_all (fragment_size p) (drop (k * fragment_size p) field) (simp length-drop (omega arith))))

  fragment_is_chained : suc k < fragment_count (length field) p
      → fragment h field p k ≡ fragment_apdu false h (take (fragment_size p) (drop (k * fragment_size p) field))
  unfolding fragment
  fragment_is_chained l = rw (ne_eqb (suc k) (fragment_count (length field) p) (λ e. omega arith))

-- ---- after k fragments

-- a chain with the first n bytes of a command
record Holds (h : Header) (n : ℕ) (c : CommandChain) : Type 0 where
  pub len : c.len ≡ n
  pub led : possible c ≡ true
  pub follows : continues c h ≡ true

holds_none : (h : Header) → Holds h 0 empty
unfolding possible continues
holds_none h = record { len = refl; led = refl; follows = refl }

holds_some : (h : Header) (n : ℕ) → 1 ≤ n → n ≤ max_command_field → Holds h n (chain h n)
holds_some h n some short = record { len = refl; led = possible_some h n some short; follows = follows_itself h n some }

module _ (h : Header) (field : Bytes) (p : ℕ) (held : Bytes) (short : length field ≤ longest_field) (asked : p ≤ max_fragment)
    (fits : length field ≤ length held) where
  -- what m more fragments and then the last give, after k of them
  abbrev left : ℕ → ℕ → Reassembled
  left m k =
      record {
        answers = tabulate m (λ i. Ok (More (suc (k + i) * fragment_size p) (status 0x90 0x00))) ++ Ok (Whole (length field) h) ∷ [];
        chain = empty;
        held = over held field;
      }

  count_is : (k : ℕ) → k < fragment_count (length field) p → k * fragment_size p < length field
  unfolding fragment_count
  count_is k l = starts_within (length field) (fragment_size p) k (sized p asked).positive l

  ends : (k : ℕ) → suc k ≡ fragment_count (length field) p → length field ≤ k * fragment_size p + fragment_size p
  unfolding fragment_count
  ends k e = ends_with_last (length field) (fragment_size p) k (sized p asked).positive e

  module _ (k : ℕ) (within : k * fragment_size p < length field) (c : CommandChain) (holds : Holds h (k * fragment_size p) c) where
    room : length (over held (take (k * fragment_size p) field)) ≡ length held
    room = length_over held (take (k * fragment_size p) field) (omega (arith, length-take-le (k * fragment_size p) field (omega arith)))

    -- the next part of the field stands behind the part before it
    behind : (d : Bytes) → put (over held (take (k * fragment_size p) field)) c.len d ≡ over held (take (k * fragment_size p) field ++ d)
    behind d = put_over held (take (k * fragment_size p) field) d c.len (holds.len ∙ sym (length-take-le (k * fragment_size p) field (omega arith)))

    -- a fragment with the data d
    taken_then : (d : Bytes) (last : Bool) (apdus : List Bytes) (rest : Reassembled) → 1 ≤ length d → length d ≤ 255
        → k * fragment_size p + length d ≤ length field
        → reassemble_all (taken h (k * fragment_size p + length d) last).next (over held (take (k * fragment_size p) field ++ d)) apdus ≡ rest
        → reassemble_all c (over held (take (k * fragment_size p) field)) (fragment_apdu last h d ∷ apdus)
        ≡ record { answers = (taken h (k * fragment_size p + length d) last).answer ∷ rest.answers; chain = rest.chain; held = rest.held }
    taken_then d last apdus rest some small whole g =
        let l : c.len ≡ k * fragment_size p = holds.len in
        let inField : c.len + length d ≤ max_command_field = omega arith in
        let inRoom : c.len + length d ≤ length (over held (take (k * fragment_size p) field)) = omega (arith, room) in
        one_more c _ (fragment_apdu last h d) apdus (taken h (k * fragment_size p + length d) last) _ rest
        (taken_answer c h d last holds.led holds.follows some small inField _ inRoom ∙ ap (λ (n : ℕ). taken h (n + length d) last) l)
        (taken_data c h d last holds.led holds.follows some small inField _ inRoom ∙ behind d)
        g

    last_one : suc k ≡ fragment_count (length field) p
        → reassemble_all c (over held (take (k * fragment_size p) field)) (fragment h field p k ∷ []) ≡ left 0 k
    unfolding taken reassemble_all
    last_one e =
        let d = drop (k * fragment_size p) field in
        let n : length d ≡ length field - k * fragment_size p = length-drop (k * fragment_size p) field in
        let e1 : k * fragment_size p + length d ≡ length field = omega arith in
        let z = sized p asked in
        ap (λ (apdu : Bytes). reassemble_all c (over held (take (k * fragment_size p) field)) (apdu ∷ [])) (fragment_is_last h field p k e (ends k e))
        ∙ taken_then d true [] (record { answers = []; chain = empty; held = over held field }) (omega arith) (omega (arith, ends k e, z.small)) (omega arith)
        (ap (λ (b : Bytes). record { answers = []; chain = empty; held = over held b }) (take-append-drop (k * fragment_size p) field))
        ∙ ap (λ (m : ℕ). record { answers = Ok (Whole m h) ∷ []; chain = empty; held = over held field }) e1

    next_one : (apdus : List Bytes) (m : ℕ) → suc k < fragment_count (length field) p
        → reassemble_all (chain h (suc k * fragment_size p)) (over held (take (suc k * fragment_size p) field)) apdus ≡ left m (suc k)
        → reassemble_all c (over held (take (k * fragment_size p) field)) (fragment h field p k ∷ apdus) ≡ left (suc m) k
    unfolding taken
    next_one apdus m l g =
        let s = fragment_size p in
        let d = take s (drop (k * s) field) in
        let w : suc k * s < length field = count_is (suc k) l in
        let part : length d ≡ s = length-take-le s (drop (k * s) field) (simp length-drop (omega (arith, suc-mul k s))) in
        let total : k * s + length d ≡ suc k * s = omega (arith, suc-mul k s) in
        let bytes : take (k * s) field ++ d ≡ take (suc k * s) field = sym (take-add (k * s) s field) ∙ ap (λ (n : ℕ). take n field) (sym (suc-mul k s)) in
        let z = sized p asked in
        ap (λ (apdu : Bytes). reassemble_all c (over held (take (k * s) field)) (apdu ∷ apdus)) (fragment_is_chained h field p k l)
        ∙ taken_then d false apdus (left m (suc k)) (omega (arith, z.positive)) (omega (arith, z.small)) (omega arith)
        (ap₂ (λ (n : ℕ) (b : Bytes). reassemble_all (chain h n) (over held b) apdus) total bytes ∙ g)
        ∙ ap₂ (λ (n : ℕ) (l : List (Result CommandPart Refusal)). record { answers = Ok (More n (status 0x90 0x00)) ∷ l ++ Ok (Whole (length field) h) ∷ []; chain = empty; held = over held field })
        (total ∙ ap (λ (j : ℕ). suc j * s) (sym (add-zero k)))
        (tabulate_ext m (λ i b. ap (λ (j : ℕ). Ok (More (suc j * s) (status 0x90 0x00))) (suc-add k i ∙ sym (add-suc k i))))

  go : (m k : ℕ) (c : CommandChain) → k + suc m ≡ fragment_count (length field) p → Holds h (k * fragment_size p) c
      → reassemble_all c (over held (take (k * fragment_size p) field)) (tabulate (suc m) (λ i. fragment h field p (k + i))) ≡ left m k
  go zero k c e holds =
      ap (λ (j : ℕ). reassemble_all c (over held (take (k * fragment_size p) field)) (fragment h field p j ∷ [])) (add-zero k)
      ∙ last_one k (count_is k (omega arith)) c holds (omega arith)
  go (suc m) k c e holds =
      let l : suc k < fragment_count (length field) p = omega arith in
      let w : k * fragment_size p < length field = count_is k (omega arith) in
      let v : suc k * fragment_size p < length field = count_is (suc k) l in
      let z = sized p asked in
      ap₂ (λ (j : ℕ) (apdus : List Bytes). reassemble_all c (over held (take (k * fragment_size p) field)) (fragment h field p j ∷ apdus)) (add-zero k)
      (tabulate_ext (suc m) (λ i b. ap (fragment h field p) (add-suc k i ∙ sym (suc-add k i))))
      ∙ next_one k w c holds _ m l
      (go m (suc k) (chain h (suc k * fragment_size p)) (omega arith) (holds_some h (suc k * fragment_size p) (omega (arith, suc-mul k (fragment_size p), z.positive)) (omega arith)))

  some_fragments : 1 ≤ length field → 0 < fragment_count (length field) p
  unfolding fragment_count
  some_fragments some = below_ceiling (length field) (fragment_size p) 0 (sized p asked).positive (omega (arith, zero-mul (fragment_size p)))

-- all of them, from an empty chain
pub reassembles : Reassembles
unfolding fragments answers_to
reassembles h field p held some short asked fits =
    let s = fragment_size p in
    let n = fragment_count (length field) p in
    let positive : 0 < n = some_fragments h field p held short asked fits some in
    let count : n ≡ suc (n - 1) = omega arith in
    let none : take (0 * s) field ≡ [] = ap (λ (k : ℕ). take k field) (zero-mul s) in
    ap₂ (λ (b : Bytes) (apdus : List Bytes). reassemble_all empty b apdus) (sym (ap (over held) none ∙ over_nil held))
    (ap (λ (m : ℕ). tabulate m (fragment h field p)) count ∙ tabulate_ext (suc (n - 1)) (λ i b. ap (fragment h field p) (sym (zero-add i))))
    ∙ go h field p held short asked fits (n - 1) 0 empty (zero-add (suc (n - 1)) ∙ sym count) (subst (λ (k : ℕ). Holds h k empty) (sym (zero-mul s)) (holds_none h))
    ∙ ap (λ (l : List (Result CommandPart Refusal)). record { answers = l ++ Ok (Whole (length field) h) ∷ []; chain = empty; held = over held field })
    (tabulate_ext (n - 1) (λ i b. ap (λ (j : ℕ). Ok (More (suc j * s) (status 0x90 0x00))) (zero-add i)))
