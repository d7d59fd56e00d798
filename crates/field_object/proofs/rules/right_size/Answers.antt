-- `right_size` meets its contract: one case for each tag.
use mathlib.Core.Path.{◌≡◌, sym, ◌∙◌}
use Prim.Native.Nat.{ℕ}
use native.Mathlib.Omega.{arith}
use borrow.Author.Tests.{eq-eqb, ne_eqb, le-leb, lt-leb}
use Rattle.field_object.specs.Values.{right_size}
use Rattle.field_object.proofs.rules.right_size.Goals as goal
use Rattle.field_object.proofs.rules.right_size.Goals.{then-n-ge17, else-n-ge17}

pub returns-then-n-eq0 : goal.returns-then-n-eq0
unfolding right_size
returns-then-n-eq0 c =
    elim c.if-n-ge17.branch [
      | then-n-ge17 w ↦ simp (eq-eqb _ _ c.in-135.is, le-leb _ _ w.if-n-ge17.true, sym w.value-is ∙ c.if-n-eq0.true)
      | else-n-ge17 w ↦
          let e = sym (lt-leb _ _ w.if-n-ge17.false) ∙ sym w.value-is ∙ c.if-n-eq0.true in
          let z : ◌≡◌ {A = ℕ} 0 1 = cc in
          let o : ⊥ = omega arith in absurd o
    ]

pub returns-else-n-eq0 : goal.returns-else-n-eq0
unfolding right_size
returns-else-n-eq0 c =
    elim c.if-n-ge17.branch [
      | then-n-ge17 w ↦ simp (eq-eqb _ _ c.in-135.is, le-leb _ _ w.if-n-ge17.true, sym w.value-is ∙ c.if-n-eq0.false) c.if-n-eq0.false
      | else-n-ge17 w ↦ simp (eq-eqb _ _ c.in-135.is, lt-leb _ _ w.if-n-ge17.false) c.if-n-eq0.false
    ]

pub returns-in-142 : goal.returns-in-142
unfolding right_size
returns-in-142 c = simp (ne_eqb c.args.tag 0x87 (λ e. omega (arith, e, c.in-142.is)), eq-eqb _ _ c.in-142.is)

pub returns-in_default : goal.returns-in_default
unfolding right_size
returns-in_default c =
    simp (ne_eqb c.args.tag 0x87 (λ e. omega (arith, e)), ne_eqb c.args.tag 0x8E (λ e. omega (arith, e)), c.second_size.ensures)
