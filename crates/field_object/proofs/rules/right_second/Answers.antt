-- `right_second` meets its contract: Le is 00, and the status is the one given.
use mathlib.Core.Path.{sym, ◌∙◌}
use borrow.Author.Tests.{eq-eqb, ne_eqb}
use Rattle.field_object.specs.Values.{right_second}
use Rattle.field_object.proofs.rules.right_second.Goals as goal

pub returns-in-Le : goal.returns-in-Le
unfolding right_second
returns-in-Le c = simp (c.in-Le.is, c.byte_at.ensures)

pub returns-then-byte_at-sw1 : goal.returns-then-byte_at-sw1
unfolding right_second
returns-then-byte_at-sw1 c =
    simp (c.in-Status.is, eq-eqb _ _ (sym c.byte_at-in-Status.ensures ∙ c.if-byte_at-sw1.true), c.byte_after.ensures)

pub returns-else-byte_at-sw1 : goal.returns-else-byte_at-sw1
unfolding right_second
returns-else-byte_at-sw1 c =
    simp (
      c.in-Status.is,
      ne_eqb _ _ c.if-byte_at-sw1.false,
      ne_eqb _ _ (λ e. c.if-byte_at-sw1.false (c.byte_at-in-Status.ensures ∙ e)),
    )
