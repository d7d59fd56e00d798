-- `read_length` meets its contract: one case for each form, and for each way to be cut off.
use mathlib.Core.Path.{sym, ap, ◌∙◌}
use Prim.Native.Nat.{ℕ, ◌≤◌}
use native.Mathlib.Omega.{arith}
use lib.ListN.{length}
use borrow.Author.Rules.{rules}
use borrow.Author.Tests.{le-ltb}
use Rattle.field_ber_length.specs.Length.{found, read_length}
use Rattle.field_ber_length.proofs.LengthForms.{rest_none, rest_one, rest_two, rest_three, rest_bad}
use Rattle.field_ber_length.proofs.read_length.Goals as goal

pub returns-in_err-get : goal.returns-in_err-get
unfolding read_length
returns-in_err-get c =
    let a = c.args in
    let h : length a.bytes.now ≤ a.at = omega (arith, c.in_err-get.ensures.lookup.0) in
    c.from_residual.ensures ∙ sym (simp (le-ltb _ _ h))

pub returns-in-len1-up : goal.returns-in-len1-up
returns-in-len1-up c =
    let r = c.in_ok-get.ensures.lookup.0 in
    ap (λ (n : ℕ). found n 1) c.from.ensures ∙ rest_one _ _ _ r.2 r.3 c.in-len1-up.len_at_least c.if-first-lt128.true

pub returns-in-130 : goal.returns-in-130
returns-in-130 c =
    let r = c.in_ok-get.ensures.lookup.0 in
    ap (λ (n : ℕ). found n 3) (c.from-in-130.ensures ∙ c.from_be_bytes.ensures)
    ∙ rest_three _ _ _ r.2 r.3 c.in-130.len_at_least (search rules)

pub returns-in-129 : goal.returns-in-129
returns-in-129 c =
    let r = c.in_ok-get.ensures.lookup.0 in
    ap (λ (n : ℕ). found n 2) c.from-in-129.ensures ∙ rest_two _ _ _ r.2 r.3 (search rules) (search rules)

pub returns-in_default : goal.returns-in_default
returns-in_default c = let r = c.in_ok-get.ensures.lookup.0 in rest_none _ _ _ r.2 r.3 c.in_default.len_below

pub returns-in_default-2 : goal.returns-in_default-2
returns-in_default-2 c =
    let r = c.in_ok-get.ensures.lookup.0 in
    rest_bad _ _ _ r.2 r.3 c.in-len1-up.len_at_least c.if-first-lt128.false (λ q. omega arith) (λ q. omega arith)

pub returns-in_default-3 : goal.returns-in_default-3
returns-in_default-3 c =
    let r = c.in_ok-get.ensures.lookup.0 in
    rest_bad _ _ _ r.2 r.3 c.in-len1-up.len_at_least c.if-first-lt128.false (λ q. omega (arith, q)) (λ q. omega (arith, q))

pub returns-in_default-4 : goal.returns-in_default-4
returns-in_default-4 c =
    let r = c.in_ok-get.ensures.lookup.0 in
    rest_bad _ _ _ r.2 r.3 c.in-len1-up.len_at_least c.if-first-lt128.false (λ q. omega (arith, q)) (λ q. omega (arith, q))
