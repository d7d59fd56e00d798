-- `absorb` meets its contract: the bytes left bring the state to where all of them bring the first state.
use borrow.Author.Rules.{rules}
use mathlib.Core.Path.{◌≡◌, sym, ap, ap₂, ◌∙◌}
use mathlib.Core.List.{[], ◌++◌}
use lib.ListN.{take-append-drop}
use Rattle.std.proofs.lemmas.List.{nil_from_length}
use Rattle.std.specs.Slice.Iter.{chunks_rest}
use Rattle.aes.specs.Aes.{ciph}
use Rattle.mode_cmac.specs.declared.Cmac.{Cmac}
use Rattle.mode_cmac.specs.Running.{absorb}
use Rattle.mode_cmac.proofs.BlockByBlock.{absorb_append}
use Rattle.mode_cmac.proofs.Cmac.absorb.Goals as goal

pub loop-block-init : goal.loop-block-init
loop-block-init c =
    let f = ciph c.args.key.now.size c.args.key.now.words in
    let cut = c.split_at in
    let left : chunks_rest c.into_iter-block-iterator.result ≡ cut.result.1.now = search rules in
    let all : cut.result.0.now ++ cut.result.1.now ≡ c.args.«data».now =
    ap₂ ◌++◌ cut.ensures.front cut.ensures.back ∙ take-append-drop _ _ in (
      search rules,
      tt,
      search rules,
      ap₂ (absorb f) c.absorb_block-state.ensures left ∙ sym (absorb_append f c.args.self _ _) ∙ ap (absorb f c.args.self) all,
    )

pub loop-block-preserved : goal.loop-block-preserved
loop-block-preserved c =
    let f = ciph c.args.key.now.size c.args.key.now.words in
    let l = c.loop-block in
    let steps = c.in-Some.ensures.steps in (
      search rules,
      tt,
      steps.0 ∙ l.invariant.2,
      ap (λ (s : Cmac). absorb f s (chunks_rest c.next.new.self)) c.absorb_block-state-in-loop-block.ensures
          ∙ sym (absorb_append f l.state _ _)
          ∙ ap (absorb f l.state) (sym steps.1.0)
          ∙ l.invariant.3,
    )

pub returns : goal.returns
unfolding absorb
returns c =
    let f = ciph c.args.key.now.size c.args.key.now.words in
    let l = c.loop-block in
    let none : chunks_rest l.block-iterator ≡ [] = nil_from_length _ c.in-None.ensures.steps.1.0 in
    ap (absorb f l.state) (sym none) ∙ l.invariant.3
