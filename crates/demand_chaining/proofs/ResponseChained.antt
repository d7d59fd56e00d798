-- Asking for a response and reassembling it, of the functions, from the same of the definitions.
-- Assumes nothing.
use mathlib.Core.Path.{◌≡◌, refl, sym, ap, subst, ◌∙◌}
use mathlib.Core.Bool.{true}
use mathlib.Core.List.{List, [], ◌∷◌, map}
use Prim.Native.Nat.{ℕ, zero, suc, ◌*◌, ◌≤◌, ◌<◌}
use native.Mathlib.Omega.{arith}
use borrow.Author.Tests.{le-leb, lt-ltb}
use lib.ListN.{length, drop}
use lib.Seq.{take-append_seam}
use Rattle.octets.specs.Bytes.{Bytes, tabulate}
use Rattle.octets.specs.Write.{over}
use Rattle.std.specs.Prelude.{Result}
use Rattle.apdu.specs.declared.StatusWord.{StatusWord}
use Rattle.refusal.specs.declared.Refusal.{Refusal}
use Rattle.message_permission.specs.Permission.{status_permitted}
use Rattle.message_answer.specs.Answer.{Answer, gave, require◌else◌⨾◌, buffer}
use Rattle.chain_parts.specs.Parts.{ceiling}
use Rattle.chain_parts.proofs.Ceiling.{starts_within}
use Rattle.chain_response.specs.Fragment.{longest_field, next, fragment, fragment_response, fragment_answer}
use Rattle.chain_response.specs.Reassembly.{ResponseReassembly, empty, reassemble_response, reassembly_buffer}
use Rattle.chain_response.specs.Chains.{le_after, Reassembled, requests}
use Rattle.chain_response.specs.declared.ResponseFragment.{ResponseFragment}
use Rattle.chain_response.specs.declared.ResponseChain.{ResponseChain}
use Rattle.chain_response.proofs.Theorems.{whole_response}
use Rattle.demand_chaining.specs.Calls.{FragmentsResponse, ReassemblesResponse, status_given, response_field_given, index_asked, le_asked, response_fragment_before, response_fragment_after, response_chain_given, bytes_given, response_field_before, response_field_after, bytes_in, bytes, next_in}
use Rattle.demand_chaining.specs.ResponseChaining.{Asks, Handed, buffer_after, chain_after, ReassemblesResponses}

-- ---- one fragment

-- with room, a fragment that there is is given
gives : (sw : StatusWord) (field : Bytes) (at le room : ℕ) → status_permitted sw ≡ true → length field ≤ longest_field → at < length field
    → length (fragment sw field at le) ≤ room → fragment_response sw field at le room ≡ gave (fragment sw field at le)
unfolding fragment_response require◌else◌⨾◌
gives sw field at le room permitted short within fits =
    rw (permitted, le-leb (length field) longest_field short, lt-ltb at (length field) within, le-leb (length (fragment sw field at le)) room fits)

same_call : (sw tw : StatusWord) (field bytes : Bytes) (at i le j room : ℕ) → sw ≡ tw → field ≡ bytes → at ≡ i → le ≡ j
    → fragment_response sw field at le room ≡ fragment_response tw bytes i j room
same_call sw tw field bytes at i le j room a b c d = rw (a, b, c, d)

same_next : (field bytes : Bytes) (at i le j : ℕ) → field ≡ bytes → at ≡ i → le ≡ j → next field at le ≡ next bytes i j
same_next field bytes at i le j a b c = rw (a, b, c)

same_reassembly : (c d : ResponseChain) (bytes given held out : Bytes) → c ≡ d → bytes ≡ given → held ≡ out
    → reassemble_response c bytes (length held) ≡ reassemble_response d given (length out)
same_reassembly c d bytes given held out e f g = rw (e, f, g)

same_buffer : (c d : ResponseChain) (bytes given held out : Bytes) → c ≡ d → bytes ≡ given → held ≡ out
    → reassembly_buffer c bytes held ≡ reassembly_buffer d given out
same_buffer c d bytes given held out e f g = rw (e, f, g)

same_requests : (sw : StatusWord) (field : Bytes) (n at i : ℕ) (r s : ResponseReassembly) (held out : Bytes) → at ≡ i → r ≡ s → held ≡ out
    → requests sw field n at (le_after r.answer) r.next held ≡ requests sw field n i (le_after s.answer) s.next out
same_requests sw field n at i r s held out e f g = rw (e, f, g)

-- what was given first is at the start of the buffer
in_buffer : (answer : Result ResponseFragment Refusal) (held out bytes : Bytes) (n : ℕ) (a : Answer Bytes) → a ≡ gave bytes → answer ≡ fragment_answer n a
    → out ≡ buffer (λ (b : Bytes). b) held a → (bytes_in answer out ≡ bytes) × (next_in answer ≡ n)
unfolding buffer over
in_buffer answer held out bytes n a g e f =
    (rw (e, f, g) (take-append_seam bytes (drop (length bytes) held)), rw (e, g))

-- the indices of some requests are within the field
abbrev Within : ℕ → List ℕ → Type 0
Within n [] = Unit {0}
Within n (i ∷ is) = (i < n) × Within n is

module _ (sw : StatusWord) (field : Bytes) (permitted : status_permitted sw ≡ true) (short : length field ≤ longest_field) where
  asked_given : (at le : ℕ) (f : FragmentsResponse) → at < length field → Asks sw field at le f
      → (bytes f ≡ fragment sw field at le) × (next_in f.result ≡ next field at le)
  asked_given at le f within a =
      let room = length (response_fragment_before f) in
      let g = in_buffer f.result (response_fragment_before f) (response_fragment_after f) (fragment sw field at le) _ _
      (same_call (status_given f) sw (response_field_given f) field (index_asked f) at (le_asked f) le room a.of_status a.of_field a.of_index a.of_le
      ∙ gives sw field at le room permitted short within a.room) f.met.0 f.met.1 in
      (g.0, g.1 ∙ same_next (response_field_given f) field (index_asked f) at (le_asked f) le a.of_field a.of_index a.of_le)

  -- ---- all of them

  handed_is : (at le : ℕ) (c : ResponseChain) (held : Bytes) (fs : List FragmentsResponse) (rs : List ReassemblesResponse)
      → Within (length field) (requests sw field (length rs) at le c held).indices → Handed sw field at le c held fs rs
      → requests sw field (length rs) at le c held
      ≡ record {
        indices = (requests sw field (length rs) at le c held).indices;
        answers = map (λ r. r.result.answer) rs;
        chain = chain_after c rs;
        held = buffer_after held rs;
      }
  unfolding requests
  handed_is at le c held [] [] w t = refl
  handed_is at le c held [] (r ∷ rs) w t = absurd t
  handed_is at le c held (f ∷ fs) [] w t = absurd t
  handed_is at le c held (f ∷ fs) (r ∷ rs) w t =
      let g = asked_given at le f w.0 t.0.0 in
      let first : reassemble_response c (fragment sw field at le) (length held) ≡ r.result =
      sym (r.met.0 ∙ same_reassembly (response_chain_given r) c (bytes_given r) _ (response_field_before r) held t.0.1 (t.0.3 ∙ g.0) t.0.2) in
      let out : reassembly_buffer c (fragment sw field at le) held ≡ response_field_after r =
      sym (r.met.1 ∙ same_buffer (response_chain_given r) c (bytes_given r) _ (response_field_before r) held t.0.1 (t.0.3 ∙ g.0) t.0.2) in
      let e = same_requests sw field (length rs) _ (next_in f.result) _ r.result _ (response_field_after r) (sym g.1) first out in
      let rest = e ∙ handed_is (next_in f.result) (le_after r.result.answer) r.result.next (response_field_after r) fs rs
      (subst (λ (x : Reassembled). Within (length field) x.indices) e w.1) t.1 in
      λ i. record {
        indices = at ∷ (requests sw field (length rs) (next field at le) (le_after (reassemble_response c (fragment sw field at le) (length held)).answer) (reassemble_response c (fragment sw field at le) (length held)).next (reassembly_buffer c (fragment sw field at le) held)).indices;
        answers = (first i).answer ∷ (rest i).answers;
        chain = (rest i).chain;
        held = (rest i).held;
      }

all_within : (field : Bytes) (n : ℕ) (f : ℕ → ℕ) → ((k : ℕ) → k < n → f k < length field) → Within (length field) (tabulate n f)
all_within field zero f h = tt
all_within field (suc n) f h = (h 0 (omega arith), all_within field n (λ i. f (suc i)) (λ k l. h (suc k) (omega arith)))

pub reassembles_responses : ReassemblesResponses
reassembles_responses sw field held fs rs permitted some short fits count handed =
    let whole = ap (λ (n : ℕ). requests sw field n 0 0x00 empty held) count ∙ whole_response sw field held permitted some short fits in
    let within : Within (length field) (requests sw field (length rs) 0 0x00 empty held).indices =
    subst (λ (x : Reassembled). Within (length field) x.indices) (sym whole)
    (all_within field (ceiling (length field) 256) (λ k. k * 256) (λ k l. starts_within (length field) 256 k (omega arith) l)) in
    let e = sym (handed_is sw field permitted short 0 0x00 empty held fs rs within handed) ∙ whole in
    record {
      answers = ap (λ (x : Reassembled). x.answers) e;
      chain = ap (λ (x : Reassembled). x.chain) e;
      buffer = ap (λ (x : Reassembled). x.held) e;
    }
