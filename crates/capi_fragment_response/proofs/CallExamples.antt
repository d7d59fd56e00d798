-- Calls worked out: everything that each leaves, of bytes that differ, so that none can stand for another.
use mathlib.Core.Path.{◌≡◌, refl}
use mathlib.Core.List.{[], ◌∷◌}
use Rattle.octets.specs.Bytes.{Bytes, zeros}
use Rattle.octets.specs.Write.{over}
use Rattle.message_answer.specs.Answer.{require◌else◌⨾◌, buffer}
use Rattle.message_permission.specs.Permission.{status_permitted}
use Rattle.chain_response.specs.Fragment.{asked, announced, fragment_data, fragment_status, next, fragment, fragment_response}
use Rattle.capi_fragment_response.specs.Call.{given, left, pivsm_fragment_response}

abbrev field : Bytes
field = 0x21 ∷ 0x22 ∷ 0x23 ∷ 0x24 ∷ 0x25 ∷ []

abbrev room6 : Bytes
room6 = 0xE0 ∷ 0xE1 ∷ 0xE2 ∷ 0xE3 ∷ 0xE4 ∷ 0xE5 ∷ []

abbrev room3 : Bytes
room3 = 0xE0 ∷ 0xE1 ∷ 0xE2 ∷ []

-- two bytes from index 1 on, with two left behind them; and the last two, with the status word; the buffer keeps what stands behind
more : pivsm_fragment_response (given 0x6281 field 1 2 room6) ≡ left 0 (0x22 ∷ 0x23 ∷ 0x61 ∷ 0x02 ∷ 0xE4 ∷ 0xE5 ∷ []) 4 3
unfolding fragment_response require◌else◌⨾◌ status_permitted fragment fragment_status announced next fragment_data asked buffer over
more = refl

last : pivsm_fragment_response (given 0x6281 field 3 4 room6) ≡ left 0 (0x24 ∷ 0x25 ∷ 0x62 ∷ 0x81 ∷ 0xE4 ∷ 0xE5 ∷ []) 4 5
unfolding fragment_response require◌else◌⨾◌ status_permitted fragment fragment_status announced next fragment_data asked buffer over
last = refl

-- refused: the buffer stays, there is no next index, and the length is 0, but for the one needed at 6
not_permitted : pivsm_fragment_response (given 0x6190 field 3 4 room6) ≡ left 3 room6 0 0
unfolding fragment_response require◌else◌⨾◌ status_permitted buffer
not_permitted = refl

field_too_long : pivsm_fragment_response (given 0x6281 (zeros 16404) 3 4 room6) ≡ left 4 room6 0 0
unfolding fragment_response require◌else◌⨾◌ status_permitted buffer
field_too_long = refl

no_such_index : pivsm_fragment_response (given 0x6281 field 5 4 room6) ≡ left 14 room6 0 0
unfolding fragment_response require◌else◌⨾◌ status_permitted buffer
no_such_index = refl

no_room : pivsm_fragment_response (given 0x6281 field 1 2 room3) ≡ left 6 room3 4 0
unfolding fragment_response require◌else◌⨾◌ status_permitted fragment fragment_status announced next fragment_data asked buffer
no_room = refl
