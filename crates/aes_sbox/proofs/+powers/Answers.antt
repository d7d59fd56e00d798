-- `powers` meets its contract: its turns are those of the definition.
use Rattle.std.proofs.Common.{ℕ, ◌-◌, ap, ◌∙◌}
use Rattle.aes_gf.specs.Field.{◌•◌}
use Rattle.aes_inverses.specs.Inverse.{powers}
use Rattle.aes_sbox.proofs.PowerSteps.{powers_none, powers_more}
use Rattle.aes_sbox.proofs.+powers.Goals as goal

pub returns-then-n-eq0 : goal.returns-then-n-eq0
returns-then-n-eq0 t c = powers_none c.args.n c.args.b c.if-n-eq0.true

pub returns : goal.returns
returns t c =
    let a = c.args in
    c.multiply-2.ensures
    ∙ ap (λ (x : ℕ). a.b • x) (c.powers.ensures ∙ ap (powers (a.n - 1)) c.multiply.ensures)
    ∙ powers_more a.n a.b c.if-n-eq0.false
