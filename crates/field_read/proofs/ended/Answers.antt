-- `ended` meets its contract: the objects of the list, one after the other.
use mathlib.Core.Path.{sym, ap, ◌∙◌}
use native.Mathlib.Omega.{arith}
use borrow.Author.Tests.{lt-ltb, le-ltb}
use Rattle.field_expected.specs.Wanted.{lacks}
use Rattle.field_read.specs.Field.{ended}
use Rattle.field_expected.specs.declared.Need.{Need}
use Rattle.field_read.proofs.ended.Goals as goal

pub returns-then-lacks : goal.returns-then-lacks
unfolding ended
returns-then-lacks c = simp (sym c.lacks.ensures ∙ c.if-lacks.true)

pub returns-then-lacks-2 : goal.returns-then-lacks-2
unfolding ended
returns-then-lacks-2 c =
    simp (sym c.lacks.ensures ∙ c.if-lacks.false, sym (c.lacks-2.ensures ∙ ap (λ (need : Need). lacks need c.args.objects.second) c.need.ensures) ∙ c.if-lacks-2.true, c.tag.ensures)

pub returns-then-after-lt3 : goal.returns-then-after-lt3
unfolding ended
returns-then-after-lt3 c =
    simp (sym c.lacks.ensures ∙ c.if-lacks.false, sym (c.lacks-2.ensures ∙ ap (λ (need : Need). lacks need c.args.objects.second) c.need.ensures) ∙ c.if-lacks-2.false, lt-ltb c.args.after 3 (omega arith))

pub returns : goal.returns
unfolding ended
returns c =
    simp (sym c.lacks.ensures ∙ c.if-lacks.false, sym (c.lacks-2.ensures ∙ ap (λ (need : Need). lacks need c.args.objects.second) c.need.ensures) ∙ c.if-lacks-2.false, le-ltb c.args.after 3 (omega arith))
