-- FIPS 197, 5.1.4: AddRoundKey.
use Rattle.octets.specs.Bytes.{◌⊕◌}
use Rattle.aes_state.specs.State.{State, at, state}

-- s'_(r,c) = s_(r,c) ⊕ k_(r,c), where column c of the round key k is w[4 * round + c]
abbrev pub add_round_key : State → State → State
add_round_key s k = state (λ r c. at s r c ⊕ at k r c)
