-- `pivsm_cbc_decrypt` meets its contract: the three ways of `Results`; the data is whole where CBC says that it is done.
use mathlib.Core.Path.{sym, ◌∙◌}
use mathlib.Core.List.{List}
use borrow.Author.Tests.{ne_eqb}
use Rattle.octets.specs.Bytes.{Bytes}
use Rattle.aes.specs.Aes.{inv_ciph, inv_aes}
use Rattle.aes_key_expansion.specs.declared.KeySize.{KeySize}
use Rattle.mode_cbc.specs.Cbc.{cbc_decrypt}
use mathlib.Core.Bool.{◌&&◌}
use Rattle.mode_cbc.specs.Whole.{whole}
use Rattle.primitives.specs.Calls.{block_long}
use Rattle.primitives.proofs.Results.{key_fits, some_key, bad_key, malformed, cbc_done, cbc_partial}
use Rattle.primitives.proofs.pivsm_cbc_decrypt.Goals as goal

abbrev cbc : KeySize → List Bytes → Bytes → Bytes → Bytes
cbc size w = cbc_decrypt (inv_ciph size w)

pub returns-in-Ok : goal.returns-in-Ok
unfolding inv_aes
returns-in-Ok c =
    let a = c.args in
    let known = sym c.key_size.ensures ∙ c.in-Some.is in
    let k = some_key a.key.now c.in-Some.size c.expanded-key.result known c.expanded-key.ensures in
    let m = cbc_done a.key.now a.iv.now a.«data».now c.expanded-key.result.size k.0 c.if-iv-ne16.false cbc k.1 c.array_at.ensures
    c.decrypt.ensures.answer c.decrypt.ensures.buffer c.in-Ok.is in
    record { answer = m.0; buffer = m.1 }

pub returns-in-Err : goal.returns-in-Err
unfolding inv_aes
returns-in-Err c =
    let a = c.args in
    let known = sym c.key_size.ensures ∙ c.in-Some.is in
    let k = some_key a.key.now c.in-Some.size c.expanded-key.result known c.expanded-key.ensures in
    let m = cbc_partial a.key.now a.iv.now a.«data».now c.expanded-key.result.size k.0 c.if-iv-ne16.false cbc k.1 c.array_at.ensures
    c.decrypt.ensures.answer c.decrypt.ensures.buffer c.in-Err.is in
    record { answer = m.0; buffer = m.1 }

pub returns-in_default : goal.returns-in_default
returns-in_default c =
    let a = c.args in
    let xs = a.«data».now in
    let m = bad_key a.key.now (block_long a.iv.now && whole xs) (λ s k. cbc_decrypt (inv_aes s k) a.iv.now xs) xs
    (sym c.key_size.ensures ∙ c.in_default.is) in
    record { answer = m.0; buffer = m.1 }

pub returns-then-iv-ne16 : goal.returns-then-iv-ne16
returns-then-iv-ne16 c =
    let a = c.args in
    let xs = a.«data».now in
    let known = sym c.key_size.ensures ∙ c.in-Some.is in
    let m = malformed a.key.now (block_long a.iv.now && whole xs) (λ s k. cbc_decrypt (inv_aes s k) a.iv.now xs) xs c.in-Some.size known
    (simp (ne_eqb _ _ c.if-iv-ne16.true)) in
    record { answer = m.0; buffer = m.1 }

pub expanded-key-requires : goal.expanded-key-requires
expanded-key-requires c = key_fits _ c.in-Some.size (sym c.key_size.ensures ∙ c.in-Some.is)
