-- AddRoundKey is its own inverse on every State, and makes a State of States.
use mathlib.Core.Path.{◌≡◌, ◌∙◌}
use Rattle.octets.specs.Bytes.{◌⊕◌}
use Rattle.octets.proofs.Xor.{xor_byte, xor_undo}
use Rattle.aes_state.specs.State.{State, at, IsState}
use Rattle.aes_state.proofs.Entries.{state_ext, state_at, state_is}
use Rattle.aes_add_round_key.specs.AddRoundKey.{add_round_key}

pub add_round_key_twice : (s k : State) → IsState s → add_round_key (add_round_key s k) k ≡ s
add_round_key_twice s k h = state_ext (λ r c hr hc. xor_undo (at s r c) (at k r c)) ∙ state_at s h

pub add_round_key_is : (s k : State) → IsState s → IsState k → IsState (add_round_key s k)
add_round_key_is s k h g =
    state_is (λ r c. at s r c ⊕ at k r c)
    (λ r c hr hc. xor_byte (at s r c) (at k r c) (h.bytes r c hr hc) (g.bytes r c hr hc))
