-- FIPS 197, 5.1.3 and 5.3.3: MixColumns and InvMixColumns.
use Rattle.std.specs.Prelude.{[], get_or}
use Rattle.octets.specs.Bytes.{tabulate}
use Rattle.aes_mix_columns.specs.MixColumn.{mix_column, inv_mix_column}
use Rattle.aes_state.specs.State.{State}

-- 5.1.3: each column mixed
abbrev pub mix_columns : State → State
mix_columns s = tabulate 4 (λ c. mix_column (get_or s c []))

-- 5.3.3: each column
abbrev pub inv_mix_columns : State → State
inv_mix_columns s = tabulate 4 (λ c. inv_mix_column (get_or s c []))
