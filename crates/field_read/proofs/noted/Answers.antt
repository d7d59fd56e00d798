-- `noted` meets its contract: one case for each tag.
use native.Mathlib.Omega.{arith}
use borrow.Author.Tests.{eq-eqb, ne_eqb}
use Rattle.field_read.specs.Field.{noted}
use Rattle.field_read.proofs.noted.Goals as goal

pub returns-in-135 : goal.returns-in-135
unfolding noted
returns-in-135 c = simp (eq-eqb _ _ c.in-135.is)

pub returns-in-142 : goal.returns-in-142
unfolding noted
returns-in-142 c = simp (ne_eqb c.args.object.tag 0x87 (λ e. omega (arith, e, c.in-142.is)), eq-eqb _ _ c.in-142.is)

pub returns-in_default : goal.returns-in_default
unfolding noted
returns-in_default c =
    simp (ne_eqb c.args.object.tag 0x87 (λ e. omega (arith, e)), ne_eqb c.args.object.tag 0x8E (λ e. omega (arith, e)))
