-- `encrypt` meets its contract: one case for whole blocks, and one for all else.
use borrow.Author.Tests.{eq-eqb, ne_eqb}
use Rattle.mode_cbc.specs.Whole.{outcome, if_whole}
use Rattle.mode_cbc.proofs.encrypt.Goals as goal

pub returns-then-data-ne0 : goal.returns-then-data-ne0
unfolding outcome if_whole
returns-then-data-ne0 c = record { answer = simp (ne_eqb _ _ c.if-data-ne0.true); buffer = simp (ne_eqb _ _ c.if-data-ne0.true) }

pub returns : goal.returns
unfolding outcome if_whole
returns c =
    record { answer = simp (eq-eqb _ _ c.if-data-ne0.false); buffer = simp (eq-eqb _ _ c.if-data-ne0.false) c.encrypt_blocks.ensures }
