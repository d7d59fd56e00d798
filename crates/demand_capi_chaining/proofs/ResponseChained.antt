-- Asking for a response and reassembling it by the calls from C, from the same of the functions below them.
use mathlib.Core.Path.{◌≡◌, refl, sym, ap, ap₂, ◌∙◌}
use mathlib.Core.Bool.{Bool, true, false}
use mathlib.Core.List.{List, [], ◌∷◌, map}
use Prim.Native.Nat.{ℕ, ◌/◌, ◌%◌, ◌<◌}
use native.Mathlib.Omega.{arith}
use borrow.Author.Tests.{ne_eqb}
use lib.Dec.{eqb}
use lib.ListN.{length, length-map}
use Rattle.octets.specs.Bytes.{Bytes, IsBytes}
use Rattle.std.specs.Prelude.{if◌then◌else◌, Result, Ok, Err}
use Rattle.apdu.specs.declared.StatusWord.{StatusWord}
use Rattle.apdu.specs.Apdu.{status_word, status_of as statusOfNumber}
use Rattle.refusal.specs.Refusal.{number}
use Rattle.refusal.specs.declared.Refusal.{Refusal}
use Rattle.message_answer.specs.Message.{more_sw1}
use Rattle.message_answer.specs.Answer.{Answer, refused, gave, buffer}
use Rattle.chain_response.specs.Fragment.{next, fragment_answer}
use Rattle.chain_response.specs.Reassembly.{ResponseReassembly, status_of, is_more, chain, empty, total, reassembly_checks, taken, concluded, reassemble_response, get_response}
use Rattle.chain_response.specs.Chains.{le_after as leAfterBelow}
use Rattle.chain_response.specs.declared.ResponseChain.{ResponseChain}
use Rattle.chain_response.specs.declared.ResponsePart.{ResponsePart}
use Rattle.chain_response.specs.declared.ResponsePart.TheVariants.{More, Whole}
use Rattle.capi_values.specs.ChainingValues.{response_reassembly_values}
use Rattle.capi_values.specs.declared.Values.{Values}
use Rattle.capi_fragment_response.specs.Call as FragmentResponse
use Rattle.capi_reassemble_response.specs.Call as ReassembleResponse
use Rattle.demand_chaining.specs.Calls as BelowCalls
use Rattle.demand_chaining.specs.ResponseChaining as Below
use Rattle.demand_chaining.proofs.Theorems.{demand2_response_fields}
use Rattle.demand_capi_chaining.specs.Calls.{FragmentsResponse, fragment_response_given, fragment_response_left, ReassemblesResponse, reassemble_response_given, reassemble_response_left}
use Rattle.demand_capi_chaining.specs.ResponseChaining.{bytes_in, le_after, Handed, buffer_after, chain_after, told, ReassemblesResponses}
use Rattle.demand_capi_chaining.proofs.Named.{fragment_response_named, reassemble_response_named, reassemble_response_bytes}
use Rattle.demand_capi_chaining.proofs.Below.{fragments_response_below, reassembles_response_below}
use Rattle.demand_capi_chaining.proofs.RefusalKept.{not_0, AllPlain, response_checks_plain}
use Rattle.demand_capi_chaining.proofs.CommandChained.{byte_at}

abbrev fragment_below : FragmentsResponse → BelowCalls.FragmentsResponse
fragment_below f = fragments_response_below (fragment_response_given f)

abbrev reassemble_below : ReassemblesResponse → BelowCalls.ReassemblesResponse
reassemble_below r = reassembles_response_below (reassemble_response_given r)

-- ---- fragmenting

bytes_in_lem : (before : Bytes) (n : ℕ) (a : Answer Bytes) (l : FragmentResponse.Left) → l ≡ FragmentResponse.leaves before n a
    → (bytes_in l ≡ BelowCalls.bytes_in (fragment_answer n a) (buffer (λ (b : Bytes). b) before a)) × (l.next ≡ BelowCalls.next_in (fragment_answer n a))
bytes_in_lem before n (refused q) l e = (rw (e, ne_eqb (number q) 0 (not_0 q)), ap (λ (x : FragmentResponse.Left). x.next) e)
bytes_in_lem before n (gave b) l e = (rw e, ap (λ (x : FragmentResponse.Left). x.next) e)

fragment_same : (f : FragmentsResponse)
    → (bytes_in (fragment_response_left f) ≡ BelowCalls.bytes (fragment_below f)) × ((fragment_response_left f).next ≡ BelowCalls.next_in (fragment_below f).result)
fragment_same f =
    let g = fragment_response_given f in
    bytes_in_lem g.apdu (next g.field g.at g.le) (FragmentResponse.fragmented g) (fragment_response_left f) (fragment_response_named f)

-- ---- the number to ask for

-- of a status word
abbrev le_of : ℕ → ℕ
le_of sw = if eqb (statusOfNumber sw).sw1 more_sw1 then (statusOfNumber sw).sw2 else 0x00

module _ (sw : StatusWord) (b : sw.sw2 < 256) where
  high : status_word sw / 256 ≡ sw.sw1
  high = omega arith

  low : status_word sw % 256 ≡ sw.sw2
  low = omega arith

module _ (c : ResponseChain) (apdu : Bytes) (b : IsBytes apdu) where
  taken_le : (n : ℕ) (more : Bool) → is_more apdu ≡ more
      → le_of (response_reassembly_values (taken (status_of apdu) n more).answer).status ≡ leAfterBelow (taken (status_of apdu) n more).answer
  unfolding taken is_more get_response
  taken_le n true e =
      let s = status_of apdu in
      let l = byte_at apdu b _ in
      rw (high (record { sw1 = more_sw1; sw2 = s.sw2 }) l, low (record { sw1 = more_sw1; sw2 = s.sw2 }) l)
  taken_le n false e =
      let s = status_of apdu in
      rw (high s (byte_at apdu b _), e)

  concluded_le : (room : ℕ) (a : Answer (Unit {0})) → AllPlain room a
      → le_of (response_reassembly_values (concluded c apdu a).answer).status ≡ leAfterBelow (concluded c apdu a).answer
  unfolding concluded
  concluded_le room (refused q) p = rw (p q refl).no_status
  concluded_le room (gave tt) p = taken_le (total c apdu) (is_more apdu) refl

  le_is : (room : ℕ) → le_of (response_reassembly_values (reassemble_response c apdu room).answer).status ≡ leAfterBelow (reassemble_response c apdu room).answer
  unfolding reassemble_response
  le_is room = concluded_le room (reassembly_checks c apdu room) (response_checks_plain c apdu room)

le_same : (r : ReassemblesResponse) → le_after (reassemble_response_left r) ≡ leAfterBelow (reassemble_below r).result.answer
le_same r =
    let g = reassemble_response_given r in
    ap (λ (l : ReassembleResponse.Left). le_after l) (reassemble_response_named r)
    ∙ le_is (chain g.chain) g.apdu (reassemble_response_bytes r) (length g.field)

-- ---- reassembling

chain_same : (r : ReassemblesResponse) → chain (reassemble_response_left r).chain ≡ (reassemble_below r).result.next
chain_same r = ap (λ (l : ReassembleResponse.Left). chain l.chain) (reassemble_response_named r)

field_same : (r : ReassemblesResponse) → (reassemble_response_left r).field ≡ BelowCalls.response_field_after (reassemble_below r)
field_same r = ap (λ (l : ReassembleResponse.Left). l.field) (reassemble_response_named r)

module _ (sw : StatusWord) (field : Bytes) where
  handed_below : (at le n : ℕ) (held : Bytes) (i j : ℕ) (c : ResponseChain) (out : Bytes) (fs : List FragmentsResponse) (rs : List ReassemblesResponse)
      → at ≡ i → le ≡ j → chain n ≡ c → held ≡ out → Handed sw field at le n held fs rs
      → Below.Handed sw field i j c out (map fragment_below fs) (map reassemble_below rs)
  handed_below at le n held i j c out [] [] ei ej e f t = tt
  handed_below at le n held i j c out [] (r ∷ rs) ei ej e f t = absurd t
  handed_below at le n held i j c out (f ∷ fs) [] ei ej e g t = absurd t
  handed_below at le n held i j c out (f ∷ fs) (r ∷ rs) ei ej e g t =
      let a = t.0.0 in
      let s = fragment_same f in (
        (
          rw (sym ei, sym ej) (record { of_status = a.of_status; of_field = a.of_field; of_index = a.of_index; of_le = a.of_le; room = a.room }),
          ap chain t.0.1 ∙ e,
          t.0.2 ∙ g,
          t.0.3 ∙ s.0,
        ),
        handed_below (fragment_response_left f).next (le_after (reassemble_response_left r)) (reassemble_response_left r).chain
            (reassemble_response_left r).field _ _ _ _ fs rs s.1 (le_same r) (chain_same r) (field_same r) t.1,
      )

told_in : (a : Result ResponsePart Refusal) (r : ResponseReassembly) (field : Bytes) → r.answer ≡ a
    → told (ReassembleResponse.leaves r field) ≡ response_reassembly_values a
told_in (Ok (More n le)) r field e = rw e
told_in (Ok (Whole n sw)) r field e = rw e
told_in (Err q) r field e = rw e

told_same : (r : ReassemblesResponse) → told (reassemble_response_left r) ≡ response_reassembly_values (reassemble_below r).result.answer
told_same r =
    let x = reassemble_below r in
    ap told (reassemble_response_named r) ∙ told_in x.result.answer x.result (BelowCalls.response_field_after x) refl

all_told : (rs : List ReassemblesResponse)
    → map (λ r. told (reassemble_response_left r)) rs
    ≡ map response_reassembly_values (map (λ (x : BelowCalls.ReassemblesResponse). x.result.answer) (map reassemble_below rs))
all_told [] = refl
all_told (r ∷ rs) = ap₂ (λ (x : Values) (l : List Values). x ∷ l) (told_same r) (all_told rs)

chain_after_lem : (n : ℕ) (c : ResponseChain) (rs : List ReassemblesResponse) → chain n ≡ c
    → chain (chain_after n rs) ≡ Below.chain_after c (map reassemble_below rs)
chain_after_lem n c [] e = e
chain_after_lem n c (r ∷ rs) e = chain_after_lem (reassemble_response_left r).chain (reassemble_below r).result.next rs (chain_same r)

buffer_after_lem : (held out : Bytes) (rs : List ReassemblesResponse) → held ≡ out → buffer_after held rs ≡ Below.buffer_after out (map reassemble_below rs)
buffer_after_lem held out [] e = e
buffer_after_lem held out (r ∷ rs) e = buffer_after_lem (reassemble_response_left r).field (BelowCalls.response_field_after (reassemble_below r)) rs (field_same r)

pub reassembles_responses : ReassemblesResponses
reassembles_responses sw field held fs rs permitted some short fits count handed =
    let d = demand2_response_fields sw field held (map fragment_below fs) (map reassemble_below rs) permitted some short fits
    (length-map rs reassemble_below ∙ count) (handed_below sw field 0 0x00 0 held 0 0x00 empty held fs rs refl refl refl refl handed) in
    record {
      answers = all_told rs ∙ ap (map response_reassembly_values) d.answers;
      chain = ap (λ (x : ResponseChain). x.len) (chain_after_lem 0 empty rs refl ∙ d.chain);
      buffer = buffer_after_lem held held rs refl ∙ d.buffer;
    }
