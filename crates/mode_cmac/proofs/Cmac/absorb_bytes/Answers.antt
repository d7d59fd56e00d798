-- `absorb_bytes` meets its contract: the bytes left bring the state to where all of them bring the first state.
use mathlib.Core.Path.{◌≡◌, sym, ap, ap₂, ◌∙◌}
use native.Mathlib.Omega.{arith}
use native.Mathlib.Numerals.{add-one}
use mathlib.Core.List.{[]}
use lib.ListN.{drop, drop_of_length-le, get_or}
use lib.Seq.{drop-cons}
use Rattle.aes.specs.Aes.{ciph}
use Rattle.mode_cmac.specs.declared.Cmac.{Cmac}
use Rattle.mode_cmac.specs.Running.{add, absorb}
use Rattle.mode_cmac.proofs.BlockByBlock.{flush_open}
use Rattle.mode_cmac.proofs.Cmac.absorb_bytes.Goals as goal

pub add-state-requires : goal.add-state-requires
add-state-requires c =
    let k = c.args.key.now in
    omega (arith, flush_open (ciph k.size k.words) c.loop-b.state, ap (λ (s : Cmac). s.len) c.flush.ensures)

pub loop-b-preserved : goal.loop-b-preserved
unfolding absorb
loop-b-preserved c =
    let k = c.args.key.now in
    let l = c.loop-b in
    let m = c.args.«data».now in
    ap₂ (absorb (ciph k.size k.words))
    (c.add-state.ensures ∙ ap (λ (x : Cmac). add x (get_or m l.b-index 0)) c.flush.ensures)
    (ap (λ n. drop n m) (add-one l.b-index))
    ∙ ap (absorb (ciph k.size k.words) l.state) (sym (drop-cons m l.b-index 0 c.loop-b-test.true))
    ∙ l.invariant

pub returns : goal.returns
unfolding absorb
returns c =
    let k = c.args.key.now in
    let l = c.loop-b in
    let m = c.args.«data».now in
    let none : drop l.b-index m ≡ [] = drop_of_length-le m {i = l.b-index} (omega arith) in
    ap (absorb (ciph k.size k.words) l.state) (sym none) ∙ l.invariant
