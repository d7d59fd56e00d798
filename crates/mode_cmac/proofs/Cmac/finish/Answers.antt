-- `finish` meets its contract: one case for a full block, one for any other.
use borrow.Author.Tests.{le-leb, lt-leb}
use mathlib.Core.Path.{ap, ap₂, ◌∙◌}
use Rattle.octets.specs.Bytes.{◌xor◌}
use Rattle.aes.specs.Aes.{ciph}
use Rattle.mode_cmac.specs.declared.Cmac.{Cmac}
use Rattle.mode_cmac.specs.Running.{finish}
use Rattle.mode_cmac.proofs.Cmac.finish.Goals as goal

pub returns-then-self-lt16 : goal.returns-then-self-lt16
unfolding finish
returns-then-self-lt16 c =
    let a = c.args in
    simp (lt-leb 16 _ c.if-self-lt16.true)
    (c.encrypt_block.ensures
    ∙ ap (ciph a.key.now.size a.key.now.words)
    (c.xor_block.ensures
    ∙ ap₂ ◌xor◌ (ap (λ (s : Cmac). s.chain) c.add-padded.ensures) c.subkey2.ensures))

pub returns : goal.returns
unfolding finish
returns c =
    let a = c.args in
    simp (le-leb 16 _ c.if-self-lt16.false)
    (c.encrypt_block-2.ensures
    ∙ ap (ciph a.key.now.size a.key.now.words) (c.xor_block-2.ensures ∙ ap (λ k. a.self.chain xor k) c.subkey1.ensures))
