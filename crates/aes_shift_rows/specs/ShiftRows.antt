-- FIPS 197, 5.1.2 and 5.3.1: ShiftRows and InvShiftRows.
use Rattle.std.specs.Prelude.{◌+◌, ◌-◌, ◌%◌}
use Rattle.aes_state.specs.State.{State, at, state}

-- 5.1.2: s'_(r,c) = s_(r, (c + r) mod 4)
abbrev pub shift_rows : State → State
shift_rows s = state (λ r c. at s r ((c + r) % 4))

-- 5.3.1: s'_(r,c) = s_(r, (c - r) mod 4)
abbrev pub inv_shift_rows : State → State
inv_shift_rows s = state (λ r c. at s r ((c + 4 - r) % 4))
