-- Calls worked out: everything that each leaves.
use mathlib.Core.Path.{◌≡◌, refl}
use mathlib.Core.List.{[], ◌∷◌}
use Rattle.octets.specs.Write.{over}
use Rattle.message_answer.specs.Answer.{require◌else◌⨾◌, buffer}
use Rattle.chain_response.specs.Reassembly.{get_response}
use Rattle.capi_get_response.specs.Call.{given, left, asked, pivsm_get_response}

-- 00 C0 00 00 and the number; the buffer keeps what stands behind
asks : pivsm_get_response (given 0xA3 (0xE0 ∷ 0xE1 ∷ 0xE2 ∷ 0xE3 ∷ 0xE4 ∷ 0xE5 ∷ 0xE6 ∷ []))
    ≡ left 0 (0x00 ∷ 0xC0 ∷ 0x00 ∷ 0x00 ∷ 0xA3 ∷ 0xE5 ∷ 0xE6 ∷ []) 5
unfolding asked require◌else◌⨾◌ get_response buffer over
asks = refl

-- refused: the buffer stays, and the length is the one needed
no_room : pivsm_get_response (given 0xA3 (0xE0 ∷ 0xE1 ∷ 0xE2 ∷ 0xE3 ∷ [])) ≡ left 6 (0xE0 ∷ 0xE1 ∷ 0xE2 ∷ 0xE3 ∷ []) 5
unfolding asked require◌else◌⨾◌ buffer
no_room = refl
