-- `marked` meets its contract: one case for each test.
use borrow.Author.Tests.{eq-eqb, ne_eqb}
use Rattle.field_padding.specs.Padding.{marked}
use Rattle.field_padding.proofs.marked.Goals as goal
use Rattle.field_padding.proofs.marked.Goals.{else-b-eq128-via-then-b-eq128+else-n-ne0, else-b-eq128-via-else-b-eq128}

pub returns-then-n-ne0 : goal.returns-then-n-ne0
unfolding marked
returns-then-n-ne0 c = simp (eq-eqb _ _ c.if-b-eq128.true, ne_eqb _ _ c.if-n-ne0.true)

pub returns-else-b-eq128 : goal.returns-else-b-eq128
unfolding marked
returns-else-b-eq128 c =
    elim c.else-b-eq128.branch [
      | else-b-eq128-via-then-b-eq128+else-n-ne0 w ↦ simp (eq-eqb _ _ w.if-b-eq128.true, eq-eqb _ _ w.if-n-ne0.false)
      | else-b-eq128-via-else-b-eq128 w ↦ simp (ne_eqb _ _ w.if-b-eq128.false)
    ]
