-- FIPS 197, 5.1: the round keys of a key schedule w.
use Rattle.std.specs.Prelude.{List, [], ℕ, ◌+◌, ◌*◌, get_or}
use Rattle.octets.specs.Bytes.{tabulate}
use Rattle.aes_state.specs.State.{Word, State}

-- the round key of a round: w[4 * round .. 4 * round + 3]
abbrev pub round_key : List Word → ℕ → State
round_key w round = tabulate 4 (λ c. get_or w (4 * round + c) [])
