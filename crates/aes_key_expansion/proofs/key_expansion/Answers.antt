-- `key_expansion` meets its contract: before each turn the first i words are made, and the others are zero.
use mathlib.Core.Path.{◌≡◌, refl, ap₂, ◌∙◌}
use Prim.Native.Nat.{ℕ, ◌+◌, ◌*◌}
use native.Mathlib.Omega.{arith}
use lib.ListN.{length-set}
use Rattle.aes_key_expansion.specs.KeySizes.{nk, nr}
use Rattle.aes_key_expansion.specs.KeyExpansion.{key_expansion, schedule}
use Rattle.aes_key_expansion.proofs.Sizes.{bounds}
use Rattle.aes_key_expansion.proofs.Schedule.{filled, filled_none, filled_more}
use Rattle.aes_key_expansion.proofs.key_expansion.Goals as goal

pub overflow_mul-end : goal.overflow_mul-end
overflow_mul-end c = omega (arith, bounds c.args.size)

pub overflow_add-end : goal.overflow_add-end
overflow_add-end c = omega (arith, bounds c.args.size)

pub loop-i-init : goal.loop-i-init
loop-i-init c =
    (refl, filled_none c.nk-n.result c.args.key)

pub next_word-requires : goal.next_word-requires
next_word-requires c =
    record { table = c.sbox-table.ensures; le_n = omega (arith, bounds c.args.size, c.rounds.ensures, c.nk-n.ensures) }

pub offset_bounds-w-i : goal.offset_bounds-w-i
offset_bounds-w-i c =
    omega (arith, bounds c.args.size, c.rounds.ensures)

pub bounds-w-i : goal.bounds-w-i
bounds-w-i c =
    omega (arith, bounds c.args.size, c.rounds.ensures)

pub loop-i-preserved : goal.loop-i-preserved
loop-i-preserved c =
    let a = c.args in
    let L = c.loop-i in
    let n = c.nk-n in
    let e : n.result ≡ nk a.size = n.ensures in (
      simp length-set L.invariant.0,
      filled_more n.result a.key L.i (omega (arith, bounds a.size, e)) (omega (arith, bounds a.size, c.rounds.ensures)) L.invariant.1 c.next_word.ensures,
    )

pub returns : goal.returns
unfolding key_expansion schedule filled
returns c =
    let a = c.args in
    let L = c.loop-i in
    let e : L.i ≡ 4 * nr a.size + 4 = omega (arith, c.rounds.ensures) in
    L.invariant.1 ∙ ap₂ (λ (n i : ℕ). filled n a.key i) c.nk-n.ensures e
