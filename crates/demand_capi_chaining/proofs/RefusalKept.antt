-- Demand 1 of fragmenting and reassembling, of the calls from C: from that of the functions below them, and from what their refusals tell.
use mathlib.Core.Path.{◌≡◌, refl, sym, ap, subst, ◌∙◌}
use mathlib.Core.Bool.{Bool, true, false}
use mathlib.Core.List.{List, [], ◌∷◌, Memᴰ}
use Prim.Native.Nat.{ℕ, ◌<◌}
use native.Mathlib.Omega.{arith}
use borrow.Author.Tests.{leb-false}
use lib.Dec.{leb}
use lib.ListN.{length, drop}
use lib.Seq.{drop-append_seam}
use Rattle.octets.specs.Bytes.{Bytes}
use Rattle.octets.specs.Write.{over}
use Rattle.refusal.specs.Refusal.{number, size, status}
use Rattle.refusal.specs.declared.Refusal.{Refusal}
use Rattle.refusal.proofs.Numbers.{number_suc}
use Rattle.refusal.specs.declared.Refusal.TheVariants.{NotPermitted, TooLong, BufferTooSmall, Malformed, BrokenChain, FragmentTooLong}
use Rattle.std.specs.Prelude.{Result, Ok, Err}
use Rattle.apdu.specs.declared.Header.{Header}
use Rattle.apdu.specs.declared.StatusWord.{StatusWord}
use Rattle.message_answer.specs.Answer.{Answer, refused, gave, require◌else◌⨾◌, buffer}
use Rattle.message_answer.proofs.Among.{Among, require_among, gave_among}
use Rattle.chain_command.specs.Apdu.{header_of, is_last}
use Rattle.chain_command.specs.Fragment.{fragment_command, fragment_answer}
use Rattle.chain_command.specs.Reassembly.{total, reassembly_checks, taken, concluded, reassemble_command}
use Rattle.chain_command.specs.declared.CommandChain.{CommandChain}
use Rattle.chain_command.specs.declared.CommandPart.{CommandPart}
use Rattle.chain_command.specs.declared.CommandPart.TheVariants.{More, Whole}
use Rattle.chain_response.specs.Fragment.{next, fragment_response, fragment_answer as responseFragmentAnswer}
use Rattle.chain_response.specs.Reassembly.{chain, status_of, is_more, total as responseTotal, reassembly_checks as responseChecks, taken as response_taken, concluded as responseConcluded, reassemble_response}
use Rattle.chain_response.specs.declared.ResponseChain.{ResponseChain}
use Rattle.chain_response.specs.declared.ResponseFragment.{ResponseFragment}
use Rattle.chain_response.specs.declared.ResponsePart.{ResponsePart}
use Rattle.chain_response.specs.declared.ResponsePart.TheVariants.{More as ResponseMore, Whole as ResponseWhole}
use Rattle.capi_values.specs.Values.{refusal_values, wrap_values}
use Rattle.capi_values.specs.ChainingValues.{reassembly_values, response_fragment_values, response_reassembly_values}
use Rattle.capi_values.specs.declared.Values.{Values}
use Rattle.capi_reassemble_command.specs.ChainNumbers.{chain_number, chain_of}
use Rattle.capi_fragment_command.specs.Call as FragmentCommand
use Rattle.capi_reassemble_command.specs.Call as ReassembleCommand
use Rattle.capi_fragment_response.specs.Call as FragmentResponse
use Rattle.capi_reassemble_response.specs.Call as ReassembleResponse
use Rattle.capi_get_response.specs.Call as GetResponse
use Rattle.demand_chaining.specs.RefusalKeeps as Below
use Rattle.demand_chaining.proofs.Theorems.{demand1, demand1_rest}
use Rattle.demand_capi_chaining.specs.Calls.{FragmentsCommand, ReassemblesCommand, FragmentsResponse, ReassemblesResponse, fragment_command_given, reassemble_command_given, fragment_response_given, reassemble_response_given, get_response_given}
use Rattle.demand_capi_chaining.specs.RefusalKeeps.{Event, fragments_command, reassembles_command, fragments_response, reassembles_response, gets_response, order, number as number_of, before, after, written, start_of, Dropped, Keeps, RefusalKeeps, LeavesRest, RestKeeps}
use Rattle.demand_capi_chaining.proofs.Named.{fragment_command_named, reassemble_command_named, fragment_response_named, reassemble_response_named, get_response_named}
use Rattle.demand_capi_chaining.proofs.Below.{fragments_command_below, reassembles_command_below, fragments_response_below, reassembles_response_below}

-- ---- what a refusal tells, in a call that had that room

pub record Plain (room : ℕ) (q : Refusal) : Type 0 where
  pub no_status : status q ≡ 0
  no_length : (number q ≡ 6 → ⊥) → size q ≡ 0
  needed : number q ≡ 6 → room < size q

too_small : (room n : ℕ) → leb n room ≡ false → Plain room (BufferTooSmall n)
too_small room n e = record { no_status = refl; no_length = λ h. absurd (h refl); needed = λ s. leb-false n room e }

other : (room : ℕ) (q : Refusal) → status q ≡ 0 → size q ≡ 0 → (number q ≡ 6 → ⊥) → Plain room q
other room q s z n = record { no_status = s; no_length = λ h. z; needed = λ e. absurd (n e) }

abbrev pub AllPlain : {A : Type 0} → ℕ → Answer A → Type 0
AllPlain room a = (q : Refusal) → a ≡ refused q → Plain room q

require_plain : {A : Type 0} (room : ℕ) (ok : Bool) (r : Refusal) (rest : Answer A) → (ok ≡ false → Plain room r) → AllPlain room rest
    → AllPlain room (require ok else r ⨾ rest)
unfolding require◌else◌⨾◌
require_plain room true r rest p f = f
require_plain room false r rest p f = λ q e. let z : r ≡ q = cc in subst (Plain room) z (p refl)

gave_plain : {A : Type 0} (room : ℕ) (x : A) → AllPlain room (gave x)
gave_plain room x q e = let z : ◌≡◌ {A = ℕ} 0 1 = cc in let o : ⊥ = omega arith in absurd o

fragment_command_plain : (h : Header) (field : Bytes) (p k room : ℕ) → AllPlain room (fragment_command h field p k room)
unfolding fragment_command
fragment_command_plain h field p k room =
    require_plain room _ FragmentTooLong _ (λ e. other room FragmentTooLong refl refl (λ z. omega arith))
    (require_plain room _ TooLong _ (λ e. other room TooLong refl refl (λ z. omega arith))
    (require_plain room _ BrokenChain _ (λ e. other room BrokenChain refl refl (λ z. omega arith))
    (require_plain room _ _ _ (too_small room _) (gave_plain room _))))

fragment_response_plain : (sw : StatusWord) (field : Bytes) (at le room : ℕ) → AllPlain room (fragment_response sw field at le room)
unfolding fragment_response
fragment_response_plain sw field at le room =
    require_plain room _ NotPermitted _ (λ e. other room NotPermitted refl refl (λ z. omega arith))
    (require_plain room _ TooLong _ (λ e. other room TooLong refl refl (λ z. omega arith))
    (require_plain room _ BrokenChain _ (λ e. other room BrokenChain refl refl (λ z. omega arith))
    (require_plain room _ _ _ (too_small room _) (gave_plain room _))))

command_checks_plain : (c : CommandChain) (apdu : Bytes) (room : ℕ) → AllPlain room (reassembly_checks c apdu room)
unfolding reassembly_checks
command_checks_plain c apdu room =
    require_plain room _ Malformed _ (λ e. other room Malformed refl refl (λ z. omega arith))
    (require_plain room _ BrokenChain _ (λ e. other room BrokenChain refl refl (λ z. omega arith))
    (require_plain room _ TooLong _ (λ e. other room TooLong refl refl (λ z. omega arith))
    (require_plain room _ _ _ (too_small room _) (gave_plain room _))))

pub response_checks_plain : (c : ResponseChain) (bytes : Bytes) (room : ℕ) → AllPlain room (responseChecks c bytes room)
unfolding responseChecks
response_checks_plain c bytes room =
    require_plain room _ Malformed _ (λ e. other room Malformed refl refl (λ z. omega arith))
    (require_plain room _ BrokenChain _ (λ e. other room BrokenChain refl refl (λ z. omega arith))
    (require_plain room _ TooLong _ (λ e. other room TooLong refl refl (λ z. omega arith))
    (require_plain room _ _ _ (too_small room _) (gave_plain room _))))

-- ---- the values of a refusal

record Told (room : ℕ) (v : Values) : Type 0 where
  no_length : (v.number ≡ 6 → ⊥) → v.len ≡ 0
  needed : v.number ≡ 6 → room < v.len
  no_status : v.status ≡ 0
  no_ins : v.header.ins ≡ 0
  no_p1 : v.header.p1 ≡ 0
  no_p2 : v.header.p2 ≡ 0
  no_next : v.next ≡ 0

told : (room : ℕ) (q : Refusal) → Plain room q → Told room (refusal_values q)
told room q p =
    record { no_length = p.no_length; needed = p.needed; no_status = p.no_status; no_ins = refl; no_p1 = refl; no_p2 = refl; no_next = refl }

abbrev Refuses : ℕ → Values → Type 0
Refuses room v = (v.number ≡ 0 → ⊥) → Told room v

fragment_told : (room : ℕ) (a : Answer Bytes) → AllPlain room a → Refuses room (wrap_values (fragment_answer a))
fragment_told room (refused q) p h = told room q (p q refl)
fragment_told room (gave b) p h = absurd (h refl)

response_fragment_told : (room n : ℕ) (a : Answer Bytes) → AllPlain room a → Refuses room (response_fragment_values (responseFragmentAnswer n a))
response_fragment_told room n (refused q) p h = told room q (p q refl)
response_fragment_told room n (gave b) p h = absurd (h refl)

taken_number : (h : Header) (n : ℕ) (last : Bool) → (reassembly_values (taken h n last).answer).number ≡ 0
unfolding taken
taken_number h n true = refl
taken_number h n false = refl

reassembly_told : (room : ℕ) (c : CommandChain) (apdu : Bytes) (a : Answer (Unit {0})) → AllPlain room a
    → Refuses room (reassembly_values (concluded c apdu a).answer)
unfolding concluded
reassembly_told room c apdu (refused q) p h = told room q (p q refl)
reassembly_told room c apdu (gave tt) p h = absurd (h (taken_number (header_of apdu) (total c apdu) (is_last apdu)))

response_taken_number : (sw : StatusWord) (n : ℕ) (more : Bool) → (response_reassembly_values (response_taken sw n more).answer).number ≡ 0
unfolding response_taken
response_taken_number sw n true = refl
response_taken_number sw n false = refl

response_reassembly_told : (room : ℕ) (c : ResponseChain) (bytes : Bytes) (a : Answer (Unit {0})) → AllPlain room a
    → Refuses room (response_reassembly_values (responseConcluded c bytes a).answer)
unfolding responseConcluded
response_reassembly_told room c bytes (refused q) p h = told room q (p q refl)
response_reassembly_told room c bytes (gave tt) p h = absurd (h (response_taken_number (status_of bytes) (responseTotal c bytes) (is_more bytes)))

-- ---- a call from C, and the one of the function below

is_refused : (d : Below.Event) → ((Below.values d).number ≡ 0 → ⊥) → (q : Refusal) × Below.Refuses d q
is_refused (Below.fragments_command f) h = go f.result refl h
  where
    go : (a : Result ℕ Refusal) → f.result ≡ a → ((wrap_values a).number ≡ 0 → ⊥) → (q : Refusal) × (f.result ≡ Err q)
    go (Ok n) e h = absurd (h refl)
    go (Err q) e h = (q, e)
is_refused (Below.reassembles_command r) h = go r.result.answer refl h
  where
    go : (a : Result CommandPart Refusal) → r.result.answer ≡ a → ((reassembly_values a).number ≡ 0 → ⊥)
        → (q : Refusal) × (r.result.answer ≡ Err q)
    go (Ok (More n sw)) e h = absurd (h refl)
    go (Ok (Whole n p)) e h = absurd (h refl)
    go (Err q) e h = (q, e)
is_refused (Below.fragments_response f) h = go f.result refl h
  where
    go : (a : Result ResponseFragment Refusal) → f.result ≡ a → ((response_fragment_values a).number ≡ 0 → ⊥) → (q : Refusal) × (f.result ≡ Err q)
    go (Ok x) e h = absurd (h refl)
    go (Err q) e h = (q, e)
is_refused (Below.reassembles_response r) h = go r.result.answer refl h
  where
    go : (a : Result ResponsePart Refusal) → r.result.answer ≡ a → ((response_reassembly_values a).number ≡ 0 → ⊥)
        → (q : Refusal) × (r.result.answer ≡ Err q)
    go (Ok (ResponseMore n le)) e h = absurd (h refl)
    go (Ok (ResponseWhole n sw)) e h = absurd (h refl)
    go (Err q) e h = (q, e)

record Same (e : Event) (d : Below.Event) : Type 0 where
  order_is : Below.order d ≡ order e
  number_is : number_of e ≡ (Below.values d).number
  written_is : written e ≡ (Below.values d).len
  before_is : Below.before d ≡ before e
  after_is : after e ≡ Below.after d
  start_is : Below.start_of d ≡ start_of e

keeps : (e : Event) (d : Below.Event) → Same e d → Refuses (length (before e)) (Below.values d)
    → (Below.Dropped d → Told (length (before e)) (Below.values d) → Dropped e) → (number_of e ≡ 0 → ⊥) → Keeps e
keeps e d s tells drops h =
    let not_0 : (Below.values d).number ≡ 0 → ⊥ = λ z. h (s.number_is ∙ z) in
    let r = is_refused d not_0 in
    let k = demand1 d r.0 r.1 in
    let t = tells not_0 in
    let n = s.number_is ∙ ap (λ (v : Values). v.number) k.told in
    record {
      in_order = subst (λ (ns : List ℕ). Memᴰ (number_of e) ns) s.order_is (subst (λ (m : ℕ). Memᴰ m (Below.order d)) (sym n) k.in_order);
      output = s.after_is ∙ k.output ∙ s.before_is;
      no_length = λ not-6. s.written_is ∙ t.no_length (λ z. not-6 (s.number_is ∙ z));
      needed = λ six. subst (λ (m : ℕ). length (before e) < m) (sym s.written_is) (t.needed (sym s.number_is ∙ six));
      dropped = drops k.dropped t;
    }

-- no refusal has the number 0
pub not_0 : (q : Refusal) → number q ≡ 0 → ⊥
not_0 q e = let n = number_suc q in omega (arith, n.1, e)

rest : (e : Event) (d : Below.Event) → Same e d → number_of e ≡ 0 → LeavesRest e
rest e d s z =
    let accepted : (q : Refusal) → Below.Refuses d q → ⊥ =
    λ q r. not_0 q (sym (ap (λ (v : Values). v.number) (demand1 d q r).told) ∙ sym s.number_is ∙ z) in
    let l = demand1_rest d accepted in
    record {
      start_stays = rw (s.after_is, sym s.before_is, sym s.start_is) l.start_stays;
      rest_stays = rw (s.after_is, sym s.before_is, s.written_is) l.rest_stays;
    }

-- ---- the four calls

module _ (c : FragmentsCommand) where
  abbrev fragment-command-as : Below.Event
  fragment-command-as = Below.fragments_command (fragments_command_below (fragment_command_given c))

  fragment_command_same : Same (fragments_command c) fragment-command-as
  fragment_command_same =
      let e = fragment_command_named c in
      record {
        order_is = refl;
        number_is = ap (λ (l : FragmentCommand.Left). l.number) e;
        written_is = ap (λ (l : FragmentCommand.Left). l.written) e;
        before_is = refl;
        after_is = ap (λ (l : FragmentCommand.Left). l.apdu) e;
        start_is = refl;
      }

module _ (c : ReassemblesCommand) where
  abbrev reassemble-command-as : Below.Event
  reassemble-command-as = Below.reassembles_command (reassembles_command_below (reassemble_command_given c))

  reassemble_command_same : Same (reassembles_command c) reassemble-command-as
  reassemble_command_same =
      let e = reassemble_command_named c in
      record {
        order_is = refl;
        number_is = ap (λ (l : ReassembleCommand.Left). l.number) e;
        written_is = ap (λ (l : ReassembleCommand.Left). l.written) e;
        before_is = refl;
        after_is = ap (λ (l : ReassembleCommand.Left). l.field) e;
        start_is = refl;
      }

  reassemble_command_drops : Below.Dropped reassemble-command-as → Told (length (reassemble_command_given c).field) (Below.values reassemble-command-as)
      → Dropped (reassembles_command c)
  unfolding chain_number
  reassemble_command_drops d t =
      let e = reassemble_command_named c in (
        ap (λ (l : ReassembleCommand.Left). l.chain) e ∙ ap chain_number d,
        ap (λ (l : ReassembleCommand.Left). l.sw) e ∙ t.no_status,
        ap (λ (l : ReassembleCommand.Left). l.ins) e ∙ t.no_ins,
        ap (λ (l : ReassembleCommand.Left). l.p1) e ∙ t.no_p1,
        ap (λ (l : ReassembleCommand.Left). l.p2) e ∙ t.no_p2,
      )

module _ (c : FragmentsResponse) where
  abbrev fragment-response-as : Below.Event
  fragment-response-as = Below.fragments_response (fragments_response_below (fragment_response_given c))

  fragment_response_same : Same (fragments_response c) fragment-response-as
  fragment_response_same =
      let e = fragment_response_named c in
      record {
        order_is = refl;
        number_is = ap (λ (l : FragmentResponse.Left). l.number) e;
        written_is = ap (λ (l : FragmentResponse.Left). l.written) e;
        before_is = refl;
        after_is = ap (λ (l : FragmentResponse.Left). l.apdu) e;
        start_is = refl;
      }

module _ (c : ReassemblesResponse) where
  abbrev reassemble-response-as : Below.Event
  reassemble-response-as = Below.reassembles_response (reassembles_response_below (reassemble_response_given c))

  reassemble_response_same : Same (reassembles_response c) reassemble-response-as
  reassemble_response_same =
      let e = reassemble_response_named c in
      record {
        order_is = refl;
        number_is = ap (λ (l : ReassembleResponse.Left). l.number) e;
        written_is = ap (λ (l : ReassembleResponse.Left). l.written) e;
        before_is = refl;
        after_is = ap (λ (l : ReassembleResponse.Left). l.field) e;
        start_is = refl;
      }

-- ---- GET RESPONSE

get_keeps : (before : Bytes) (a : Answer Bytes) (l : GetResponse.Left) → l ≡ GetResponse.leaves before a → AllPlain (length before) a
    → Among (6 ∷ []) a → (l.number ≡ 0 → ⊥)
    → Memᴰ l.number (6 ∷ []) × (l.apdu ≡ before) × ((l.number ≡ 6 → ⊥) → l.written ≡ 0) × (l.number ≡ 6 → length before < l.written)
unfolding buffer
get_keeps before (refused q) l e p m h = rw e (m q refl, refl, (p q refl).no_length, (p q refl).needed)
get_keeps before (gave b) l e p m h = absurd (h (ap (λ (x : GetResponse.Left). x.number) e))

get_rest : (before : Bytes) (a : Answer Bytes) (l : GetResponse.Left) → l ≡ GetResponse.leaves before a → l.number ≡ 0
    → drop l.written l.apdu ≡ drop l.written before
unfolding buffer over
get_rest before (refused q) l e z = absurd (not_0 q (sym (ap (λ (x : GetResponse.Left). x.number) e) ∙ z))
get_rest before (gave b) l e z = rw e (drop-append_seam b (drop (length b) before))

asked_plain : (g : GetResponse.Given) → AllPlain (length g.apdu) (GetResponse.asked g)
unfolding GetResponse.asked
asked_plain g = require_plain _ _ _ _ (too_small (length g.apdu) 5) (gave_plain _ _)

asked_among : (g : GetResponse.Given) → Among (6 ∷ []) (GetResponse.asked g)
unfolding GetResponse.asked
asked_among g = require_among _ _ _ _ (Memᴰ.head refl) (gave_among _ _)

pub refusal_keeps : RefusalKeeps
unfolding reassemble_command reassemble_response
refusal_keeps (fragments_command c) h =
    let g = fragment_command_given c in
    keeps (fragments_command c) (fragment-command-as c) (fragment_command_same c)
    (fragment_told (length g.apdu) (FragmentCommand.fragmented g) (fragment_command_plain g.header g.field g.size g.number (length g.apdu)))
    (λ d t. tt) h
refusal_keeps (reassembles_command c) h =
    let g = reassemble_command_given c in
    keeps (reassembles_command c) (reassemble-command-as c) (reassemble_command_same c)
    (reassembly_told (length g.field) (chain_of g.chain) g.apdu _ (command_checks_plain (chain_of g.chain) g.apdu (length g.field)))
    (reassemble_command_drops c) h
refusal_keeps (fragments_response c) h =
    let g = fragment_response_given c in
    keeps (fragments_response c) (fragment-response-as c) (fragment_response_same c)
    (response_fragment_told (length g.apdu) (next g.field g.at g.le) (FragmentResponse.fragmented g)
    (fragment_response_plain g.status g.field g.at g.le (length g.apdu)))
    (λ d t. ap (λ (l : FragmentResponse.Left). l.next) (fragment_response_named c) ∙ t.no_next) h
refusal_keeps (reassembles_response c) h =
    let g = reassemble_response_given c in
    keeps (reassembles_response c) (reassemble-response-as c) (reassemble_response_same c)
    (response_reassembly_told (length g.field) (chain g.chain) g.apdu _ (response_checks_plain (chain g.chain) g.apdu (length g.field)))
    (λ d t.
    let e = reassemble_response_named c in
    (ap (λ (l : ReassembleResponse.Left). l.chain) e ∙ ap (λ (x : ResponseChain). x.len) d, ap (λ (l : ReassembleResponse.Left). l.sw) e ∙ t.no_status)) h
refusal_keeps (gets_response c) h =
    let g = get_response_given c in
    let k = get_keeps g.apdu (GetResponse.asked g) _ (get_response_named c) (asked_plain g) (asked_among g) h in
    record { in_order = k.0; output = k.1; no_length = k.2; needed = k.3; dropped = tt }

pub rest_keeps : RestKeeps
rest_keeps (fragments_command c) z = rest (fragments_command c) (fragment-command-as c) (fragment_command_same c) z
rest_keeps (reassembles_command c) z = rest (reassembles_command c) (reassemble-command-as c) (reassemble_command_same c) z
rest_keeps (fragments_response c) z = rest (fragments_response c) (fragment-response-as c) (fragment_response_same c) z
rest_keeps (reassembles_response c) z = rest (reassembles_response c) (reassemble-response-as c) (reassemble_response_same c) z
rest_keeps (gets_response c) z =
    let g = get_response_given c in
    record { start_stays = refl; rest_stays = get_rest g.apdu (GetResponse.asked g) _ (get_response_named c) z }
