-- The chains that fragments lead to are the possible ones: a taken fragment leaves a possible chain, fragments of one byte lead to each of them,
-- and with any other chain every APDU is refused.
-- Assumes nothing.
use mathlib.Core.Path.{◌≡◌, refl, ap, subst, ◌∙◌}
use mathlib.Core.Bool.{Bool, true, false, ◌&&◌}
use mathlib.Core.List.{[], ◌∷◌}
use Prim.Native.Nat.{ℕ, zero, suc, ◌+◌, ◌≤◌}
use native.Mathlib.Omega.{arith}
use borrow.Author.Tests.{leb-true, eqb-true, le-leb, eq-eqb, ne_eqb}
use lib.Dec.{leb, eqb}
use Rattle.octets.specs.Bytes.{Bytes}
use Rattle.std.specs.Prelude.{Ok, Err, if◌then◌else◌}
use Rattle.octets.proofs.Tests.{both}
use Rattle.apdu.specs.declared.Header.{Header}
use Rattle.apdu.specs.Apdu.{header, status}
use Rattle.refusal.specs.declared.Refusal.TheVariants.{TooLong, BufferTooSmall, Malformed, BrokenChain}
use Rattle.message_answer.specs.Message.{max_command_field}
use Rattle.message_answer.specs.Answer.{Answer, refused, gave, require◌else◌⨾◌}
use Rattle.message_answer.proofs.Required.{require_gave}
use Rattle.chain_command.specs.Apdu.{fragment_apdu, header_of, lc, is_last, well_formed}
use Rattle.chain_command.specs.Reassembly.{Reassembly, empty, chain, possible, continues, total, reassembly_checks, taken, concluded, reassemble_command}
use Rattle.chain_command.specs.Chains.{Reached, none, more, ReachedArePossible, PossibleAreReached, OthersAreRefused}
use Rattle.chain_command.specs.declared.CommandChain.{CommandChain}
use Rattle.chain_command.specs.declared.CommandPart.TheVariants.{More}
use Rattle.chain_command.proofs.TakenFragment.{taken_answer}

-- ---- a fragment leaves a possible chain

possible_empty : possible empty ≡ true
unfolding possible
possible_empty = refl

pub possible_some : (h : Header) (n : ℕ) → 1 ≤ n → n ≤ max_command_field → possible (chain h n) ≡ true
unfolding possible
possible_some h n some short = rw (ne_eqb n 0 (λ e. omega arith), le-leb n max_command_field short)

some_data : (apdu : Bytes) → well_formed apdu ≡ true → 1 ≤ lc apdu
unfolding well_formed
some_data apdu e =
    leb-true 1 (lc apdu) (both (leb 1 (lc apdu)) (leb (lc apdu) 255) (both (leb 1 (lc apdu) && leb (lc apdu) 255) _ e).0).0

taken_possible : (h : Header) (n : ℕ) (last : Bool) → 1 ≤ n → n ≤ max_command_field → possible (taken h n last).next ≡ true
unfolding taken
taken_possible h n true some short = possible_empty
taken_possible h n false some short = possible_some h n some short

module _ (c : CommandChain) (apdu : Bytes) (room : ℕ) where
  passed_possible : reassembly_checks c apdu room ≡ gave tt → possible (taken (header_of apdu) (total c apdu) (is_last apdu)).next ≡ true
  unfolding reassembly_checks
  passed_possible e =
      let formed = require_gave (well_formed apdu) Malformed _ tt e in
      let led = require_gave (possible c && continues c (header_of apdu)) BrokenChain _ tt formed.1 in
      let short = require_gave (leb (total c apdu) max_command_field) TooLong _ tt led.1 in
      let n = some_data apdu formed.0 in
      taken_possible (header_of apdu) (total c apdu) (is_last apdu) (omega arith) (leb-true (total c apdu) max_command_field short.0)

  concluded_possible : (a : Answer (Unit {0})) → reassembly_checks c apdu room ≡ a → possible (concluded c apdu a).next ≡ true
  unfolding concluded
  concluded_possible (refused r) e = possible_empty
  concluded_possible (gave tt) e = passed_possible e

  pub leaves_possible : possible (reassemble_command c apdu room).next ≡ true
  unfolding reassemble_command
  leaves_possible = concluded_possible (reassembly_checks c apdu room) refl

pub reached_are_possible : ReachedArePossible
reached_are_possible c none = possible_empty
reached_are_possible c (more d apdu room n sw r e) = leaves_possible d apdu room

-- ---- each possible chain is reached

-- from a chain to the one with a byte more
module _ (h : Header) (n : ℕ) (short : suc n ≤ max_command_field) (c : CommandChain) (len : c.len ≡ n) (led : possible c ≡ true) (follows : continues c h ≡ true) where
  one_byte : reassemble_command c (fragment_apdu false h (0 ∷ [])) (suc n) ≡ record { answer = Ok (More (suc n) (status 0x90 0x00)); next = chain h (suc n) }
  unfolding taken
  one_byte =
      let total : c.len + 1 ≡ suc n = omega arith in
      taken_answer c h (0 ∷ []) false led follows (omega arith) (omega arith) (omega arith) (suc n) (omega arith)
      ∙ ap (λ (m : ℕ). taken h m false) total

  reach_next : Reached c → Reached (chain h (suc n))
  reach_next r =
      subst Reached (ap (λ (x : Reassembly). x.next) one_byte)
      (more c (fragment_apdu false h (0 ∷ [])) (suc n) (suc n) (status 0x90 0x00) r (ap (λ (x : Reassembly). x.answer) one_byte))

pub follows_itself : (h : Header) (n : ℕ) → 1 ≤ n → continues (chain h n) h ≡ true
unfolding continues
follows_itself h n some =
    rw (ne_eqb n 0 (λ e. omega arith), eq-eqb h.ins h.ins refl, eq-eqb h.p1 h.p1 refl, eq-eqb h.p2 h.p2 refl)

follows_none : (h : Header) → continues empty h ≡ true
unfolding continues
follows_none h = refl

reach : (h : Header) (n : ℕ) → suc n ≤ max_command_field → Reached (chain h (suc n))
reach h zero short = reach_next h 0 short empty refl possible_empty (follows_none h) none
reach h (suc n) short =
    reach_next h (suc n) short (chain h (suc n)) refl (possible_some h (suc n) (omega arith) (omega arith)) (follows_itself h (suc n) (omega arith))
    (reach h n (omega arith))

split : (n ins p1 p2 : ℕ) → possible (chain (header ins p1 p2) n) ≡ true → Reached (chain (header ins p1 p2) n)
unfolding possible
split zero ins p1 p2 led =
    let e = both (eqb ins 0 && eqb p1 0) (eqb p2 0) led in
    let f = both (eqb ins 0) (eqb p1 0) e.0 in
    rw (eqb-true ins 0 f.0, eqb-true p1 0 f.1, eqb-true p2 0 e.1) none
split (suc n) ins p1 p2 led =
    let nonzero : eqb (suc n) 0 ≡ false = ne_eqb (suc n) 0 (λ e. omega arith) in
    reach (header ins p1 p2) n (leb-true (suc n) max_command_field (rw nonzero at led))

pub possible_are_reached : PossibleAreReached
possible_are_reached c led = split c.len c.header.ins c.header.p1 c.header.p2 led

-- ---- any other is refused

pub others_are_refused : OthersAreRefused
unfolding reassemble_command reassembly_checks require◌else◌⨾◌ concluded
others_are_refused c apdu room e = go (well_formed apdu)
  where
    go : (formed : Bool) → (concluded c apdu (require formed else Malformed ⨾
        require possible c && continues c (header_of apdu) else BrokenChain ⨾
        require leb (total c apdu) max_command_field else TooLong ⨾
        require leb (total c apdu) room else BufferTooSmall (total c apdu) ⨾
        gave tt)).answer ≡ Err (if formed then BrokenChain else Malformed)
    go true = rw e
    go false = refl
