-- `fragment_response` meets its contract: refused by a test, or written.
use mathlib.Core.Path.{refl, sym, ◌∙◌}
use native.Mathlib.Nat.{zero-add}
use native.Mathlib.Omega.{arith}
use lib.ListN.{length}
use Rattle.std.specs.Prelude.{Ok}
use Rattle.octets.proofs.Writing.{wrote_all}
use Rattle.message_answer.specs.Answer.{buffer}
use Rattle.chain_fragment_response.proofs.FragmentCases.{may_fragment, was_refused}
use Rattle.chain_fragment_response.proofs.Parts.{part_order, part_within, part_fragment, length_fragment}
use Rattle.chain_fragment_response.proofs.fragment_response.Goals as goal

pub returns-in_err-next-clause-output : goal.returns-in_err-next-clause-output
unfolding buffer
returns-in_err-next-clause-output c = rw (was_refused _ _ _ (sym c.fragment_checks.ensures ∙ c.in_err-next.was)) refl

pub put_fragment-len-requires : goal.put_fragment-len-requires
put_fragment-len-requires c =
    let a = c.args in
    let m = may_fragment a.status a.field.now a.at a.le (length a.out.now) _ _ (sym c.fragment_checks.ensures ∙ c.in_ok-next.was) in
    (part_order a.field.now a.at a.le _ m.ends, part_within a.field.now a.at a.le _ m.ends (omega (arith, m.some)), omega (arith, length_fragment a.field.now a.at a.le _ m.ends a.status, m.fits))

pub returns : goal.returns
unfolding buffer
returns c =
    let a = c.args in
    let m = may_fragment a.status a.field.now a.at a.le (length a.out.now) _ _ (sym c.fragment_checks.ensures ∙ c.in_ok-next.was) in
    let w = rw (part_fragment a.field.now a.at a.le _ m.ends a.status) at c.put_fragment-len.ensures in
    record {
      answer = rw m.given (λ i. Ok (record { len = (w.end ∙ zero-add _) i; next = m.ends i }));
      output = rw m.given (wrote_all w);
    }
