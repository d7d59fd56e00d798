-- `inv_middle_rounds` meets its contract: what is left to do of x is what was to do of s.
use borrow.Author.Rules.{rules}
use mathlib.Core.Path.{◌≡◌, refl, ◌∙◌}
use native.Mathlib.Omega.{arith}
use Rattle.aes_sbox.specs.SBox.{inv_s_box}
use Rattle.aes.specs.InvCipher.{inv_rounds}
use Rattle.aes.proofs.Rounds.{inv_rounds_less}
use Rattle.aes.proofs.inv_middle_rounds.Goals as goal

pub loop-round-init : goal.loop-round-init
loop-round-init c = (search rules, refl)

pub loop-round-preserved : goal.loop-round-preserved
loop-round-preserved c =
    let a = c.args in
    let L = c.loop-round in (
      omega arith,
      inv_rounds_less a.key.now.words L.x L.round c.loop-round-test.true c.inv_shift_rows.ensures
          (c.sub_bytes-substituted.ensures inv_s_box c.requires.table) c.round_key.ensures c.add_round_key.ensures c.inv_mix_columns-x.ensures
          ∙ L.invariant.1,
    )

pub returns : goal.returns
unfolding inv_rounds
returns c = let e : c.loop-round.round ≡ 0 = omega arith in rw e at c.loop-round.invariant.1
