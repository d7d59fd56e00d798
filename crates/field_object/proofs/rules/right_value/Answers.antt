-- `right_value` meets its contract: one case for each tag.
use native.Mathlib.Omega.{arith}
use borrow.Author.Tests.{eq-eqb, ne_eqb}
use Rattle.field_object.specs.Values.{right_value}
use Rattle.field_object.proofs.rules.right_value.Goals as goal

pub returns-in-135 : goal.returns-in-135
unfolding right_value
returns-in-135 c = simp (eq-eqb _ _ c.in-135.is, c.byte_at.ensures)

pub returns-in-142 : goal.returns-in-142
unfolding right_value
returns-in-142 c = simp (ne_eqb c.args.tag 0x87 (λ e. omega (arith, e, c.in-142.is)), eq-eqb _ _ c.in-142.is)

pub returns-in_default : goal.returns-in_default
unfolding right_value
returns-in_default c =
    simp (ne_eqb c.args.tag 0x87 (λ e. omega (arith, e)), ne_eqb c.args.tag 0x8E (λ e. omega (arith, e))) c.right_second.ensures
