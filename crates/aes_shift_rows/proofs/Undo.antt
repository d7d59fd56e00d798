-- InvShiftRows undoes ShiftRows on every State, and ShiftRows makes a State of a State.
use mathlib.Core.Path.{◌≡◌}
use Prim.Native.Nat.{◌+◌, ◌%◌}
use native.Mathlib.Nat.{mod-lt, zero-lt-suc}
use Rattle.aes_state.specs.State.{State, at, IsState}
use Rattle.aes_state.proofs.Entries.{state_at, state_is}
use Rattle.aes_shift_rows.specs.ShiftRows.{shift_rows, inv_shift_rows}

pub inv_shift_rows-shift_rows : (s : State) → IsState s → inv_shift_rows (shift_rows s) ≡ s
inv_shift_rows-shift_rows s h = state_at s h

pub shift_rows_is : (s : State) → IsState s → IsState (shift_rows s)
shift_rows_is s h =
    state_is (λ r c. at s r ((c + r) % 4)) (λ r c hr hc. h.bytes r ((c + r) % 4) hr (mod-lt (c + r) (zero-lt-suc 3)))
