-- The chains that fragments lead to are the possible ones: a taken fragment leaves a possible chain, fragments of one byte lead to each of them,
-- and with any other chain every fragment is refused.
-- Assumes nothing.
use mathlib.Core.Path.{◌≡◌, refl, ap, subst, ◌∙◌}
use mathlib.Core.Bool.{Bool, true, false}
use mathlib.Core.List.{[], ◌∷◌}
use Prim.Native.Nat.{ℕ, zero, suc, ◌+◌, ◌≤◌}
use native.Mathlib.Omega.{arith}
use borrow.Author.Tests.{leb-true, le-leb}
use lib.Dec.{leb}
use Rattle.octets.specs.Bytes.{Bytes}
use Rattle.std.specs.Prelude.{Ok, Err, if◌then◌else◌}
use Rattle.apdu.specs.declared.StatusWord.{StatusWord}
use Rattle.refusal.specs.declared.Refusal.TheVariants.{TooLong, BufferTooSmall, Malformed, BrokenChain}
use Rattle.message_answer.specs.Message.{max_response_field, more_sw1}
use Rattle.message_answer.specs.Answer.{Answer, refused, gave, require◌else◌⨾◌}
use Rattle.message_answer.proofs.Required.{require_gave}
use Rattle.chain_response.specs.Reassembly.{ResponseReassembly, status_of, is_more, well_formed, chain, possible, total, reassembly_checks, taken, concluded, reassemble_response}
use Rattle.chain_response.specs.Chains.{Reached, none, more, ReachedArePossible, PossibleAreReached, OthersAreRefused}
use Rattle.chain_response.specs.declared.ResponseChain.{ResponseChain}
use Rattle.chain_response.specs.declared.ResponsePart.TheVariants.{More}
use Rattle.chain_response.proofs.WrittenFragment.{taken_answer}

-- ---- a fragment leaves a possible chain

possible_up_to : (n : ℕ) → n ≤ max_response_field → possible (chain n) ≡ true
unfolding possible
possible_up_to n short = le-leb n max_response_field short

taken_possible : (sw : StatusWord) (n : ℕ) (more : Bool) → n ≤ max_response_field → possible (taken sw n more).next ≡ true
unfolding taken
taken_possible sw n true short = possible_up_to n short
taken_possible sw n false short = possible_up_to 0 (omega arith)

module _ (c : ResponseChain) (bytes : Bytes) (room : ℕ) where
  passed_possible : reassembly_checks c bytes room ≡ gave tt → possible (taken (status_of bytes) (total c bytes) (is_more bytes)).next ≡ true
  unfolding reassembly_checks
  passed_possible e =
      let formed = require_gave (well_formed bytes) Malformed _ tt e in
      let led = require_gave (possible c) BrokenChain _ tt formed.1 in
      let short = require_gave (leb (total c bytes) max_response_field) TooLong _ tt led.1 in
      taken_possible (status_of bytes) (total c bytes) (is_more bytes) (leb-true (total c bytes) max_response_field short.0)

  concluded_possible : (a : Answer (Unit {0})) → reassembly_checks c bytes room ≡ a → possible (concluded c bytes a).next ≡ true
  unfolding concluded
  concluded_possible (refused r) e = possible_up_to 0 (omega arith)
  concluded_possible (gave tt) e = passed_possible e

  pub leaves_possible : possible (reassemble_response c bytes room).next ≡ true
  unfolding reassemble_response
  leaves_possible = concluded_possible (reassembly_checks c bytes room) refl

pub reached_are_possible : ReachedArePossible
reached_are_possible c none = possible_up_to 0 (omega arith)
reached_are_possible c (more d bytes room n le r e) = leaves_possible d bytes room

-- ---- each possible chain is reached

one_byte : (n : ℕ) → suc n ≤ max_response_field
    → reassemble_response (chain n) (0 ∷ more_sw1 ∷ 0x00 ∷ []) (suc n) ≡ record { answer = Ok (More (suc n) 0x00); next = chain (suc n) }
unfolding taken
one_byte n short =
    let total : n + 1 ≡ suc n = omega arith in
    taken_answer (chain n) (0 ∷ []) more_sw1 0x00 (possible_up_to n (omega arith)) (λ e. omega arith) (omega arith) (omega arith) (suc n) (omega arith)
    ∙ ap (λ (m : ℕ). record { answer = Ok (More m 0x00); next = chain m }) total

reach : (n : ℕ) → n ≤ max_response_field → Reached (chain n)
reach zero short = none
reach (suc n) short =
    subst Reached (ap (λ (x : ResponseReassembly). x.next) (one_byte n short))
    (more (chain n) (0 ∷ more_sw1 ∷ 0x00 ∷ []) (suc n) (suc n) 0x00 (reach n (omega arith)) (ap (λ (x : ResponseReassembly). x.answer) (one_byte n short)))

pub possible_are_reached : PossibleAreReached
unfolding possible
possible_are_reached c led = reach c.len (leb-true c.len max_response_field led)

-- ---- any other is refused

pub others_are_refused : OthersAreRefused
unfolding reassemble_response reassembly_checks require◌else◌⨾◌ concluded
others_are_refused c bytes room e = go (well_formed bytes)
  where
    go : (formed : Bool) → (concluded c bytes (require formed else Malformed ⨾
        require possible c else BrokenChain ⨾
        require leb (total c bytes) max_response_field else TooLong ⨾
        require leb (total c bytes) room else BufferTooSmall (total c bytes) ⨾
        gave tt)).answer ≡ Err (if formed then BrokenChain else Malformed)
    go true = rw e
    go false = refl
