-- `double` meets its contract: one case for each value of the top bit.
use borrow.Author.Tests.{lt-ltb, le-ltb}
use mathlib.Core.Path.{◌≡◌, ap, ◌∙◌}
use lib.ListN.{get_or}
use Rattle.octets.specs.Bytes.{Bytes, ◌xor◌}
use Rattle.mode_cmac.specs.Subkeys.{double, r128}
use Rattle.mode_cmac.proofs.double.Goals as goal

pub returns-then-x-lt128 : goal.returns-then-x-lt128
unfolding double
returns-then-x-lt128 c =
    let x = c.args.x in
    simp (lt-ltb (get_or x 0 0) 128 c.if-x-lt128.true) c.shift_left-shifted.ensures

pub returns : goal.returns
unfolding double
returns c =
    let x = c.args.x in
    let shifted = c.shift_left-shifted in
    let sum : c.xor_block.result ≡ shifted.result xor r128 = c.xor_block.ensures in
    simp (le-ltb (get_or x 0 0) 128 c.if-x-lt128.false) (sum ∙ ap (λ (y : Bytes). y xor r128) shifted.ensures)
