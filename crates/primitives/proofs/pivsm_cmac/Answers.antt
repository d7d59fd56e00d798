-- `pivsm_cmac` meets its contract: the three ways of `Results`; two parts absorbed are the message absorbed.
use mathlib.Core.Path.{◌≡◌, ap, sym, ◌∙◌}
use mathlib.Core.List.{List, ◌++◌}
use native.Mathlib.Omega.{arith}
use borrow.Author.Tests.{eq-eqb, ne_eqb}
use lib.ListN.{length}
use Rattle.octets.specs.Bytes.{Bytes}
use Rattle.aes.specs.Aes.{ciph, aes}
use Rattle.mode_cmac.specs.Cmac.{cmac}
use Rattle.primitives.specs.Calls.{block_long}
use Rattle.primitives.proofs.Results.{two_parts, key_fits, some_key, bad_key, malformed, done, replaced}
use Rattle.primitives.proofs.pivsm_cmac.Goals as goal

pub returns : goal.returns
unfolding aes
returns c =
    let a = c.args in
    let size : length a.mac.now ≡ 16 = c.if-mac-ne16.false in
    let known = sym c.key_size.ensures ∙ c.in-Some.is in
    let k = some_key a.key.now c.in-Some.size c.expanded-key.result known c.expanded-key.ensures in
    let s = c.expanded-key.result.size in
    let m = done a.key.now (block_long a.mac.now) (λ s k. cmac (aes s k) (a.head.now ++ a.rest.now)) a.mac.now s
    k.0 (eq-eqb _ _ size)
    (replaced c.put_bytes.ensures (omega arith)
    ∙ two_parts s c.expanded-key.result.words a.head.now a.rest.now c.start.ensures c.absorb.ensures c.absorb-2.ensures c.finish-result.ensures
    ∙ ap (λ (w : List Bytes). cmac (ciph s w) (a.head.now ++ a.rest.now)) k.1) in
    record { answer = m.0; buffer = m.1 }

pub returns-in_default : goal.returns-in_default
returns-in_default c =
    let a = c.args in
    let m = bad_key a.key.now (block_long a.mac.now) (λ s k. cmac (aes s k) (a.head.now ++ a.rest.now)) a.mac.now
    (sym c.key_size.ensures ∙ c.in_default.is) in
    record { answer = m.0; buffer = m.1 }

pub returns-then-mac-ne16 : goal.returns-then-mac-ne16
returns-then-mac-ne16 c =
    let a = c.args in
    let m = malformed a.key.now (block_long a.mac.now) (λ s k. cmac (aes s k) (a.head.now ++ a.rest.now)) a.mac.now
    c.in-Some.size (sym c.key_size.ensures ∙ c.in-Some.is) (ne_eqb _ _ c.if-mac-ne16.true) in
    record { answer = m.0; buffer = m.1 }

pub expanded-key-requires : goal.expanded-key-requires
expanded-key-requires c = key_fits _ c.in-Some.size (sym c.key_size.ensures ∙ c.in-Some.is)
