-- `times` meets its contract: the product is the sum of four multiples by powers of x.
use Rattle.aes_mix_columns.proofs.FourBits.{times_of}
use Rattle.aes_mix_columns.proofs.times.Goals as goal

pub returns : goal.returns
returns g c = times_of g.row.K c.args.a c.requires c.x_times-a2.ensures c.x_times-a4.ensures c.x_times-a8.ensures
