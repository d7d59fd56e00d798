-- `allowed` of `Wanted` meets its contract: the place in the list first, then what is wanted.
use mathlib.Core.Path.{ap, ◌∙◌}
use Prim.Native.Nat.{◌≤◌, ◌<◌}
use native.Mathlib.Omega.{arith}
use borrow.Author.Tests.{eq-eqb, ne_eqb, lt-ltb, le-ltb}
use Rattle.field_expected.specs.Wanted.{may, rank, allowed}
use Rattle.field_expected.proofs.Wanted.allowed.Goals as goal

pub returns-then-rank-after : goal.returns-then-rank-after
unfolding allowed
returns-then-rank-after c =
    let a = c.args in
    let h : rank a.self.second a.tag ≤ a.after = omega arith in
    simp (le-ltb _ _ h)

pub returns-in-135 : goal.returns-in-135
unfolding allowed
returns-in-135 c =
    let a = c.args in
    let h : a.after < rank a.self.second a.tag = omega arith in
    simp (lt-ltb _ _ h, eq-eqb _ _ c.in-135.is) c.may.ensures

pub returns-in-142 : goal.returns-in-142
unfolding allowed
returns-in-142 c =
    let a = c.args in
    let h : a.after < rank a.self.second a.tag = omega arith in
    simp (lt-ltb _ _ h, ne_eqb a.tag 0x87 (λ e. omega (arith, e, c.in-142.is)), eq-eqb _ _ c.in-142.is)

pub returns-in_default : goal.returns-in_default
unfolding allowed
returns-in_default c =
    let a = c.args in
    let h : a.after < rank a.self.second a.tag = omega arith in
    simp (lt-ltb _ _ h, ne_eqb a.tag 0x87 (λ e. omega (arith, e)), ne_eqb a.tag 0x8E (λ e. omega (arith, e)))
    (c.may-in_default.ensures ∙ ap may c.need.ensures)
