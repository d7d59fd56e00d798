-- `pivsm_aes_decrypt` meets its contract: the three ways of `Results`.
use borrow.Author.Rules.{rules}
use mathlib.Core.Path.{◌≡◌, sym, ◌∙◌}
use borrow.Author.Tests.{ne_eqb}
use Rattle.aes.specs.Aes.{inv_ciph, inv_aes}
use lib.ListN.{length}
use Rattle.primitives.specs.Calls.{block_long}
use Rattle.primitives.proofs.Results.{key_fits, some_key, bad_key, malformed, block_done}
use Rattle.primitives.proofs.pivsm_aes_decrypt.Goals as goal

pub returns : goal.returns
unfolding inv_aes
returns c =
    let a = c.args in
    let b = a.block.now in
    let known = sym c.key_size.ensures ∙ c.in-Some.is in
    let k = some_key a.key.now c.in-Some.size c.expanded-key.result known c.expanded-key.ensures in
    let l : length c.decrypt_block-result.result ≡ 16 = search rules in
    let m = block_done a.key.now b c.expanded-key.result.size k.0 c.if-block-ne16.false inv_ciph k.1 c.array_at.ensures c.decrypt_block-result.ensures l
    c.put_bytes.ensures in
    record { answer = m.0; buffer = m.1 }

pub returns-in_default : goal.returns-in_default
returns-in_default c =
    let a = c.args in
    let b = a.block.now in
    let m = bad_key a.key.now (block_long b) (λ s k. inv_aes s k b) b (sym c.key_size.ensures ∙ c.in_default.is) in
    record { answer = m.0; buffer = m.1 }

pub returns-then-block-ne16 : goal.returns-then-block-ne16
returns-then-block-ne16 c =
    let a = c.args in
    let b = a.block.now in
    let known = sym c.key_size.ensures ∙ c.in-Some.is in
    let m = malformed a.key.now (block_long b) (λ s k. inv_aes s k b) b c.in-Some.size known (ne_eqb _ _ c.if-block-ne16.true) in
    record { answer = m.0; buffer = m.1 }

pub expanded-key-requires : goal.expanded-key-requires
expanded-key-requires c = key_fits _ c.in-Some.size (sym c.key_size.ensures ∙ c.in-Some.is)
