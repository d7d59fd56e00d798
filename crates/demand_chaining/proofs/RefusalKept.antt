-- Demand 1 of fragmenting and reassembling, of the functions, from their definitions.
-- Assumes nothing.
use mathlib.Core.Path.{◌≡◌, sym, ap, ◌∙◌}
use mathlib.Core.Bool.{Bool, true, false}
use mathlib.Core.List.{List, [], ◌∷◌, Memᴰ}
use Prim.Native.Nat.{ℕ}
use native.Mathlib.Omega.{arith}
use lib.ListN.{length}
use Rattle.octets.specs.Bytes.{Bytes}
use Rattle.std.specs.Prelude.{Err}
use Rattle.apdu.specs.declared.Header.{Header}
use Rattle.apdu.specs.declared.StatusWord.{StatusWord}
use Rattle.refusal.specs.declared.Refusal.{Refusal}
use Rattle.message_answer.specs.Answer.{Answer, refused, gave, buffer}
use Rattle.message_answer.proofs.Among.{Among, gave_among, require_among, first, later}
use Rattle.chain_command.specs.Apdu.{header_of, is_last}
use Rattle.chain_command.specs.Fragment.{fragment_command, fragment_answer}
use Rattle.chain_command.specs.Reassembly.{Reassembly, empty, total, reassembly_checks, taken, concluded, reassemble_command, written, reassembly_buffer}
use Rattle.chain_command.specs.declared.CommandChain.{CommandChain}
use Rattle.chain_response.specs.Fragment.{fragment_response, fragment_answer as responseFragmentAnswer}
use Rattle.chain_response.specs.Reassembly.{ResponseReassembly, status_of, is_more, empty as emptyResponse, total as responseTotal, reassembly_checks as responseChecks, taken as response_taken, concluded as responseConcluded, reassemble_response, written as response_written, reassembly_buffer as responseBuffer}
use Rattle.chain_response.specs.declared.ResponseChain.{ResponseChain}
use Rattle.capi_values.specs.Values.{wrap_values}
use Rattle.capi_values.specs.ChainingValues.{reassembly_values, response_fragment_values, response_reassembly_values}
use Rattle.demand_chaining.specs.RefusalKeeps.{fragments_command, reassembles_command, fragments_response, reassembles_response, RefusalKeeps}

-- ---- places in an order

second : {n a : ℕ} {ns : List ℕ} → Memᴰ n (a ∷ n ∷ ns)
second = later first

third : {n a b : ℕ} {ns : List ℕ} → Memᴰ n (a ∷ b ∷ n ∷ ns)
third = later second

fourth : {n a b c : ℕ} {ns : List ℕ} → Memᴰ n (a ∷ b ∷ c ∷ n ∷ ns)
fourth = later third

-- ---- the refusals of each definition

fragment_command_order : (h : Header) (field : Bytes) (p k room : ℕ) → Among (15 ∷ 4 ∷ 14 ∷ 6 ∷ []) (fragment_command h field p k room)
unfolding fragment_command
fragment_command_order h field p k room =
    require_among _ _ _ _ first (require_among _ _ _ _ second (require_among _ _ _ _ third (require_among _ _ _ _ fourth (gave_among _ _))))

fragment_response_order : (sw : StatusWord) (field : Bytes) (at le room : ℕ) → Among (3 ∷ 4 ∷ 14 ∷ 6 ∷ []) (fragment_response sw field at le room)
unfolding fragment_response
fragment_response_order sw field at le room =
    require_among _ _ _ _ first (require_among _ _ _ _ second (require_among _ _ _ _ third (require_among _ _ _ _ fourth (gave_among _ _))))

command_checks_order : (c : CommandChain) (apdu : Bytes) (room : ℕ) → Among (7 ∷ 14 ∷ 4 ∷ 6 ∷ []) (reassembly_checks c apdu room)
unfolding reassembly_checks
command_checks_order c apdu room =
    require_among _ _ _ _ first (require_among _ _ _ _ second (require_among _ _ _ _ third (require_among _ _ _ _ fourth (gave_among _ _))))

response_checks_order : (c : ResponseChain) (bytes : Bytes) (room : ℕ) → Among (7 ∷ 14 ∷ 4 ∷ 6 ∷ []) (responseChecks c bytes room)
unfolding responseChecks
response_checks_order c bytes room =
    require_among _ _ _ _ first (require_among _ _ _ _ second (require_among _ _ _ _ third (require_among _ _ _ _ fourth (gave_among _ _))))

-- ---- a refusal of the function is one of the definition

fragment_refused : (a : Answer Bytes) (q : Refusal) → fragment_answer a ≡ Err q → a ≡ refused q
fragment_refused (refused r) q e = let s : r ≡ q = cc in ap refused s
fragment_refused (gave b) q e = let z : ◌≡◌ {A = ℕ} 0 1 = cc in let o : ⊥ = omega arith in absurd o

response_fragment_refused : (n : ℕ) (a : Answer Bytes) (q : Refusal) → responseFragmentAnswer n a ≡ Err q → a ≡ refused q
response_fragment_refused n (refused r) q e = let s : r ≡ q = cc in ap refused s
response_fragment_refused n (gave b) q e = let z : ◌≡◌ {A = ℕ} 0 1 = cc in let o : ⊥ = omega arith in absurd o

taken_not_refused : {P : Type 0} (h : Header) (n : ℕ) (last : Bool) (q : Refusal) → (taken h n last).answer ≡ Err q → P
unfolding taken
taken_not_refused h n true q e = let z : ◌≡◌ {A = ℕ} 0 1 = cc in let o : ⊥ = omega arith in absurd o
taken_not_refused h n false q e = let z : ◌≡◌ {A = ℕ} 0 1 = cc in let o : ⊥ = omega arith in absurd o

reassembly_refused : (c : CommandChain) (apdu : Bytes) (a : Answer (Unit {0})) (q : Refusal) → (concluded c apdu a).answer ≡ Err q → a ≡ refused q
unfolding concluded
reassembly_refused c apdu (refused r) q e = let s : r ≡ q = cc in ap refused s
reassembly_refused c apdu (gave tt) q e = taken_not_refused (header_of apdu) (total c apdu) (is_last apdu) q e

response_taken_not_refused : {P : Type 0} (sw : StatusWord) (n : ℕ) (more : Bool) (q : Refusal) → (response_taken sw n more).answer ≡ Err q → P
unfolding response_taken
response_taken_not_refused sw n true q e = let z : ◌≡◌ {A = ℕ} 0 1 = cc in let o : ⊥ = omega arith in absurd o
response_taken_not_refused sw n false q e = let z : ◌≡◌ {A = ℕ} 0 1 = cc in let o : ⊥ = omega arith in absurd o

response_reassembly_refused : (c : ResponseChain) (bytes : Bytes) (a : Answer (Unit {0})) (q : Refusal) → (responseConcluded c bytes a).answer ≡ Err q → a ≡ refused q
unfolding responseConcluded
response_reassembly_refused c bytes (refused r) q e = let s : r ≡ q = cc in ap refused s
response_reassembly_refused c bytes (gave tt) q e = response_taken_not_refused (status_of bytes) (responseTotal c bytes) (is_more bytes) q e

-- ---- what a refusal leaves

unchanged : (held : Bytes) (a : Answer Bytes) (q : Refusal) → a ≡ refused q → buffer (λ (b : Bytes). b) held a ≡ held
unfolding buffer
unchanged held a q e = rw e

command_left : (c : CommandChain) (apdu held : Bytes) (q : Refusal) → reassembly_checks c apdu (length held) ≡ refused q
    → ((reassemble_command c apdu (length held)).next ≡ empty) × (reassembly_buffer c apdu held ≡ held)
unfolding reassemble_command concluded reassembly_buffer written
command_left c apdu held q e = (rw e, rw e)

response_left : (c : ResponseChain) (bytes held : Bytes) (q : Refusal) → responseChecks c bytes (length held) ≡ refused q
    → ((reassemble_response c bytes (length held)).next ≡ emptyResponse) × (responseBuffer c bytes held ≡ held)
unfolding reassemble_response responseConcluded responseBuffer response_written
response_left c bytes held q e = (rw e, rw e)

pub refusal_keeps : RefusalKeeps
unfolding reassemble_command reassemble_response
refusal_keeps (fragments_command f) q e =
    let a = fragment_refused _ q (sym f.met.0 ∙ e) in
    record {
      in_order = fragment_command_order _ _ _ _ _ q a;
      told = ap wrap_values e;
      output = f.met.1 ∙ unchanged _ _ q a;
      dropped = tt;
    }
refusal_keeps (reassembles_command r) q e =
    let a = reassembly_refused r.args.0 _ _ q (ap (λ (x : Reassembly). x.answer) (sym r.met.0) ∙ e) in
    let l = command_left r.args.0 _ _ q a in
    record {
      in_order = command_checks_order r.args.0 _ _ q a;
      told = ap reassembly_values e;
      output = r.met.1 ∙ l.1;
      dropped = ap (λ (x : Reassembly). x.next) r.met.0 ∙ l.0;
    }
refusal_keeps (fragments_response f) q e =
    let a = response_fragment_refused _ _ q (sym f.met.0 ∙ e) in
    record {
      in_order = fragment_response_order _ _ _ _ _ q a;
      told = ap response_fragment_values e;
      output = f.met.1 ∙ unchanged _ _ q a;
      dropped = tt;
    }
refusal_keeps (reassembles_response r) q e =
    let a = response_reassembly_refused r.args.0 _ _ q (ap (λ (x : ResponseReassembly). x.answer) (sym r.met.0) ∙ e) in
    let l = response_left r.args.0 _ _ q a in
    record {
      in_order = response_checks_order r.args.0 _ _ q a;
      told = ap response_reassembly_values e;
      output = r.met.1 ∙ l.1;
      dropped = ap (λ (x : ResponseReassembly). x.next) r.met.0 ∙ l.0;
    }
