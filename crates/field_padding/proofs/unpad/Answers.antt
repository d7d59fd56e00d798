-- `unpad` meets its contract: the walk back from index n, as far as `start`, ends as the whole walk.
use mathlib.Core.Path.{sym, ap, ◌∙◌}
use Prim.Native.Nat.{ℕ, ◌-◌}
use native.Mathlib.Omega.{arith}
use lib.ListN.{length}
use Rattle.field_padding.specs.Padding.{mark_before, unpad}
use Rattle.field_padding.proofs.Unpadding.{back_over_zero, back_to_mark, back_to_none}
use Rattle.field_padding.proofs.unpad.Goals as goal

pub loop-n-init : goal.loop-n-init
unfolding unpad
loop-n-init c =
    let e = c.saturating_sub-start.ensures in
    let xs = c.args.bytes.now in
    (omega (arith, e), ap (λ (k : ℕ). mark_before k xs (length xs)) (omega (arith, e)))

pub returns-then-bytes-n-ne0 : goal.returns-then-bytes-n-ne0
returns-then-bytes-n-ne0 c =
    let L = c.loop-n in
    let left = L.n - c.saturating_sub-start.result in
    c.marked.ensures ∙ sym (back_to_mark left c.args.bytes.now L.n (omega arith) c.if-bytes-n-ne0.true) ∙ L.invariant.1

pub loop-n-preserved : goal.loop-n-preserved
loop-n-preserved c =
    let L = c.loop-n in
    let xs = c.args.bytes.now in
    let left = L.n - c.saturating_sub-start.result in (
      omega arith,
      ap (λ (k : ℕ). mark_before k xs (L.n - 1)) (omega arith)
          ∙ sym (back_over_zero left xs L.n (omega arith) c.if-bytes-n-ne0.false)
          ∙ L.invariant.1,
    )

pub returns : goal.returns
returns c =
    let L = c.loop-n in
    sym (back_to_none (L.n - c.saturating_sub-start.result) c.args.bytes.now L.n (omega arith)) ∙ L.invariant.1
