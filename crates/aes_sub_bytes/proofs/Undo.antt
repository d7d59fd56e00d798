-- InvSubBytes undoes SubBytes on every State, and both make a State of anything.
use mathlib.Core.Path.{◌≡◌, ◌∙◌}
use Rattle.aes_sbox.specs.SBox.{s_box, inv_s_box}
use Rattle.aes_sbox.proofs.TableRule.{inv_s_box-s_box}
use Rattle.aes_sbox.proofs.GivesBytes.{s_box_byte, inv_s_box_byte}
use Rattle.aes_state.specs.State.{State, at, IsState}
use Rattle.aes_state.proofs.Entries.{state_ext, state_at, state_is}
use Rattle.aes_sub_bytes.specs.SubBytes.{sub_bytes, inv_sub_bytes}

pub inv_sub_bytes-sub_bytes : (s : State) → IsState s → inv_sub_bytes (sub_bytes s) ≡ s
inv_sub_bytes-sub_bytes s h = state_ext (λ r c hr hc. inv_s_box-s_box (at s r c) (h.bytes r c hr hc)) ∙ state_at s h

pub sub_bytes_is : (s : State) → IsState (sub_bytes s)
sub_bytes_is s = state_is (λ r c. s_box (at s r c)) (λ r c hr hc. s_box_byte (at s r c))

pub inv_sub_bytes_is : (s : State) → IsState (inv_sub_bytes s)
inv_sub_bytes_is s = state_is (λ r c. inv_s_box (at s r c)) (λ r c hr hc. inv_s_box_byte (at s r c))
