-- Calls worked out: everything that each leaves, of bytes that differ, so that none can stand for another.
use mathlib.Core.Path.{◌≡◌, refl}
use mathlib.Core.List.{[], ◌∷◌}
use Rattle.octets.specs.Bytes.{Bytes}
use Rattle.octets.specs.Write.{put}
use Rattle.message_answer.specs.Answer.{require◌else◌⨾◌}
use Rattle.chain_response.specs.Reassembly.{is_more, well_formed, possible, reassembly_checks, taken, concluded, reassemble_response, written, reassembly_buffer}
use Rattle.capi_reassemble_response.specs.Call.{given, left, pivsm_reassemble_response}

abbrev room : Bytes
room = 0xE0 ∷ 0xE1 ∷ 0xE2 ∷ 0xE3 ∷ 0xE4 ∷ []

-- two bytes with more to come, and two behind them that make it whole
more : pivsm_reassemble_response (given 0 (0x22 ∷ 0x23 ∷ 0x61 ∷ 0x05 ∷ []) room) ≡ left 0 2 (0x22 ∷ 0x23 ∷ 0xE2 ∷ 0xE3 ∷ 0xE4 ∷ []) 2 0x6105
unfolding reassemble_response concluded taken reassembly_checks require◌else◌⨾◌ possible well_formed is_more reassembly_buffer written put
more = refl

whole : pivsm_reassemble_response (given 2 (0x24 ∷ 0x25 ∷ 0x62 ∷ 0x81 ∷ []) room) ≡ left 0 0 (0xE0 ∷ 0xE1 ∷ 0x24 ∷ 0x25 ∷ 0xE4 ∷ []) 4 0x6281
unfolding reassemble_response concluded taken reassembly_checks require◌else◌⨾◌ possible well_formed is_more reassembly_buffer written put
whole = refl

-- refused: the buffer stays, the chain is empty, and the length is 0, but for the one needed at 6
malformed : pivsm_reassemble_response (given 2 (0x61 ∷ 0x05 ∷ []) room) ≡ left 7 0 room 0 0
unfolding reassemble_response concluded reassembly_checks require◌else◌⨾◌ well_formed is_more reassembly_buffer written
malformed = refl

no_such_chain : pivsm_reassemble_response (given 16404 (0x24 ∷ 0x62 ∷ 0x81 ∷ []) room) ≡ left 14 0 room 0 0
unfolding reassemble_response concluded reassembly_checks require◌else◌⨾◌ possible well_formed is_more reassembly_buffer written
no_such_chain = refl

too_long : pivsm_reassemble_response (given 16403 (0x24 ∷ 0x62 ∷ 0x81 ∷ []) room) ≡ left 4 0 room 0 0
unfolding reassemble_response concluded reassembly_checks require◌else◌⨾◌ possible well_formed is_more reassembly_buffer written
too_long = refl

no_room : pivsm_reassemble_response (given 4 (0x24 ∷ 0x25 ∷ 0x62 ∷ 0x81 ∷ []) room) ≡ left 6 0 room 6 0
unfolding reassemble_response concluded reassembly_checks require◌else◌⨾◌ possible well_formed is_more reassembly_buffer written
no_room = refl
