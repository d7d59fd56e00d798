-- `rank` of `Second` meets its contract: one case for each tag.
use mathlib.Core.Path.{sym, ◌∙◌}
use native.Mathlib.Omega.{arith}
use borrow.Author.Tests.{eq-eqb, ne_eqb}
use Rattle.field_expected.specs.Wanted.{tag_of, rank}
use Rattle.field_expected.proofs.Second.rank.Goals as goal

pub returns-in-135 : goal.returns-in-135
unfolding rank
returns-in-135 c = simp (eq-eqb _ _ c.in-135.is)

pub returns-in_default : goal.returns-in_default
unfolding rank
returns-in_default c =
    simp (ne_eqb c.args.tag 0x87 (λ e. omega (arith, e)), eq-eqb c.args.tag (tag_of c.args.self) (c.if-tag.true ∙ c.tag.ensures))

pub returns-in-142 : goal.returns-in-142
unfolding rank
returns-in-142 c =
    simp (ne_eqb c.args.tag 0x87 (λ e. omega (arith, e, c.in-142.is)), ne_eqb c.args.tag (tag_of c.args.self) (λ e. c.if-tag.false (e ∙ sym c.tag.ensures)), eq-eqb _ _ c.in-142.is)

pub returns-in_default-2 : goal.returns-in_default-2
unfolding rank
returns-in_default-2 c =
    simp (ne_eqb c.args.tag 0x87 (λ e. omega (arith, e)), ne_eqb c.args.tag (tag_of c.args.self) (λ e. c.if-tag.false (e ∙ sym c.tag.ensures)), ne_eqb c.args.tag 0x8E (λ e. omega (arith, e)))
