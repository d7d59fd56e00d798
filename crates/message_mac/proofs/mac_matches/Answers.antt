-- `mac_matches` meets its contract: before each turn `differ` is 0 exactly where the first i bytes are the same.
use borrow.Author.Rules.{rules}
use mathlib.Core.Path.{◌≡◌, ap, ap₂, ◌∙◌, refl}
use Prim.Native.Nat.{ℕ}
use native.Mathlib.Omega.{arith}
use lib.ListN.{length, take}
use lib.Seq.{take_all}
use Rattle.message_mac.specs.Same.{same}
use Rattle.message_mac.proofs.SameBytes.{same_more}
use Rattle.message_mac.proofs.mac_matches.Goals as goal

pub loop-i-init : goal.loop-i-init
unfolding same
loop-i-init c = refl

pub loop-i-preserved : goal.loop-i-preserved
loop-i-preserved c =
    let L = c.loop-i in
    let a = c.args in
    let n : length a.mac ≡ 8 = search rules in
    same_more L.differ a.received.now a.mac L.i (omega arith) (omega (arith, n)) L.invariant

pub returns : goal.returns
returns c =
    let L = c.loop-i in
    let a = c.args in
    let n : length a.mac ≡ 8 = search rules in
    let e : L.i ≡ 8 = omega arith in
    L.invariant
    ∙ ap (λ (k : ℕ). same (take k a.received.now) (take k a.mac)) e
    ∙ ap₂ same (take_all 8 a.received.now (omega arith)) (take_all 8 a.mac (omega (arith, n)))
