-- `mix_column` meets its contract: each entry is its row of products.
use mathlib.Core.Path.{◌≡◌, refl}
use Prim.Native.Nat.{ℕ}
use lib.ListN.{get_or}
use Rattle.octets.proofs.ListsOfFour.{four}
use Rattle.aes_mix_columns.proofs.MixColumn.{sum}
use Rattle.aes_mix_columns.specs.MixColumn.{mix_column}
use Rattle.aes_mix_columns.proofs.mix_column.Goals as goal

pub returns : goal.returns
unfolding mix_column
returns c =
    let s = c.args.s in
    let same : (r : ℕ) → get_or s r 0 ≡ get_or s r 0 = λ r. refl in
    four
    (sum c.times.ensures c.times-2.ensures (same 2) (same 3))
    (sum (same 0) c.times-3.ensures c.times-4.ensures (same 3))
    (sum (same 0) (same 1) c.times-5.ensures c.times-6.ensures)
    (sum c.times-7.ensures (same 1) (same 2) c.times-8.ensures)
