-- `shift_left` meets its contract: before each turn the first i bytes of X << 1 are stored.
use mathlib.Core.Path.{◌≡◌, ap₂, ◌∙◌}
use mathlib.Core.List.{◌∷◌, ◌++◌}
use Prim.Native.Nat.{◌*◌, ◌%◌}
use native.Mathlib.Omega.{arith}
use lib.ListN.{length-set, get_or, take, drop_of_length-le}
use lib.Seq.{set_split}
use Rattle.octets.specs.Bytes.{Bytes, tabulate}
use Rattle.octets.proofs.Tabulate.{tabulate_store}
use Rattle.mode_cmac.specs.Subkeys.{shifted_byte, shift_left}
use Rattle.mode_cmac.proofs.shift_left.Goals as goal

pub loop-i-preserved : goal.loop-i-preserved
loop-i-preserved c =
    let l = c.loop-i in
    let n = l.invariant.0 in
    (simp length-set n, tabulate_store l.i (shifted_byte c.args.x) l.r l.invariant.1 (omega (arith, n)))

pub returns : goal.returns
unfolding shift_left
returns c =
    let l = c.loop-i in
    let x = c.args.x in
    let n = l.invariant.0 in
    let e : l.i ≡ 15 = omega arith in
    let first : take 15 l.r ≡ tabulate 15 (shifted_byte x) = rw e at l.invariant.1 in
    set_split l.r 15 (get_or x 15 0 * 2 % 256) (omega (arith, n))
    ∙ ap₂ (λ (a b : Bytes). a ++ (get_or x 15 0 * 2 % 256) ∷ b) first (drop_of_length-le l.r {i = 16} (omega (arith, n)))
