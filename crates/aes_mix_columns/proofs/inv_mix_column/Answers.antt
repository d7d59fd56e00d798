-- `inv_mix_column` meets its contract: each entry is its row of products.
use Rattle.octets.proofs.ListsOfFour.{four}
use Rattle.aes_mix_columns.proofs.MixColumn.{sum}
use Rattle.aes_mix_columns.specs.MixColumn.{inv_mix_column}
use Rattle.aes_mix_columns.proofs.inv_mix_column.Goals as goal

pub returns : goal.returns
unfolding inv_mix_column
returns c =
    four
    (sum c.times.ensures c.times-2.ensures c.times-3.ensures c.times-4.ensures)
    (sum c.times-5.ensures c.times-6.ensures c.times-7.ensures c.times-8.ensures)
    (sum c.times-9.ensures c.times-10.ensures c.times-11.ensures c.times-12.ensures)
    (sum c.times-13.ensures c.times-14.ensures c.times-15.ensures c.times-16.ensures)
