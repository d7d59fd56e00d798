-- `all_zero` meets its contract: before each turn the bytes passed are zero.
use borrow.Author.Tests.{eq-eqb, ne_eqb}
use mathlib.Core.Path.{◌≡◌, sym, ap, ◌∙◌}
use mathlib.Core.Bool.{false}
use Prim.Native.Nat.{ℕ, ◌+◌, ◌<◌}
use native.Mathlib.Omega.{arith}
use native.Mathlib.Numerals.{add-one}
use lib.ListN.{length, drop, get_or, drop_of_length-le}
use lib.Seq.{drop-cons}
use Rattle.octets.specs.Bytes.{Bytes}
use Rattle.session_rules.specs.ZeroBytes.{all_zero}
use Rattle.session_rules.proofs.zeros.all_zero.Goals as goal

step : (s : Bytes) (i : ℕ) → i < length s → get_or s i 0 ≡ 0 → all_zero (drop i s) ≡ all_zero (drop (i + 1) s)
unfolding all_zero
step s i h e = rw (drop-cons s i 0 h, add-one, eq-eqb (get_or s i 0) 0 e)

stop : (s : Bytes) (i : ℕ) → i < length s → (get_or s i 0 ≡ 0 → ⊥) → all_zero (drop i s) ≡ false
unfolding all_zero
stop s i h e = rw (drop-cons s i 0 h, ne_eqb (get_or s i 0) 0 e)

pub returns-then-b-ne0 : goal.returns-then-b-ne0
returns-then-b-ne0 c = sym (c.loop-b.invariant ∙ stop c.args.bytes.now c.loop-b.b-index c.loop-b-test.true c.if-b-ne0.true)

pub loop-b-preserved : goal.loop-b-preserved
loop-b-preserved c = c.loop-b.invariant ∙ step c.args.bytes.now c.loop-b.b-index c.loop-b-test.true c.if-b-ne0.false

pub returns : goal.returns
unfolding all_zero
returns c = sym (c.loop-b.invariant ∙ ap all_zero (drop_of_length-le c.args.bytes.now (omega arith)))
