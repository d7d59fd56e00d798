-- Calls worked out: everything that each leaves. Each key has bytes of its own, so that none can stand for another.
use mathlib.Core.Path.{◌≡◌, refl}
use mathlib.Core.List.{[], ◌∷◌, ◌++◌}
use lib.ListN.{replicate}
use Rattle.octets.specs.Bytes.{Bytes, zeros}
use Rattle.octets.specs.Write.{over}
use Rattle.octets_numbers.specs.BigEndian.{big_endian}
use Rattle.session_suite.specs.StoredKeys.{keys_fit}
use Rattle.session.specs.Opening.{open_suite, opening}
use Rattle.session_bytes.specs.Saved.{header, keys, mcvs, encode}
use Rattle.message_answer.specs.Answer.{require◌else◌⨾◌, buffer}
use Rattle.capi_open.specs.Call.{given, left, saved, opened_as, pivsm_open_host, pivsm_open_card}

abbrev enc : Bytes
enc = replicate 16 0xE1

abbrev mac : Bytes
mac = replicate 16 0xA2

abbrev rmac : Bytes
rmac = replicate 16 0xB3

-- the bytes of a session with these keys at a side
abbrev opened : Bytes → Bytes
opened side = 0x00 ∷ 0x88 ∷ 0x01 ∷ side ++ 0x00 ∷ 0x02 ∷ zeros 4 ++ enc ++ zeros 16 ++ mac ++ zeros 16 ++ rmac ++ zeros 48

-- opened: the buffer keeps what stands behind
host : pivsm_open_host (given 2 enc mac rmac (replicate 140 0xD4)) ≡ left 0 (opened (0 ∷ []) ++ 0xD4 ∷ 0xD4 ∷ []) 138
unfolding opening open_suite keys_fit opened_as saved require◌else◌⨾◌ encode header keys mcvs big_endian buffer over
host = refl

card : pivsm_open_card (given 2 enc mac rmac (replicate 140 0xD4)) ≡ left 0 (opened (1 ∷ []) ++ 0xD4 ∷ 0xD4 ∷ []) 138
unfolding opening open_suite keys_fit opened_as saved require◌else◌⨾◌ encode header keys mcvs big_endian buffer over
card = refl

-- refused: the buffer stays, and the length is 0, but for the one needed at 6; 11 comes before 12, and 12 before 6
host_unknown_suite : pivsm_open_host (given 3 (zeros 15) mac rmac (0xD4 ∷ [])) ≡ left 11 (0xD4 ∷ []) 0
unfolding opening open_suite opened_as buffer
host_unknown_suite = refl

card_unknown_suite : pivsm_open_card (given 3 (zeros 15) mac rmac (0xD4 ∷ [])) ≡ left 11 (0xD4 ∷ []) 0
unfolding opening open_suite opened_as buffer
card_unknown_suite = refl

host_key_length : pivsm_open_host (given 7 enc mac rmac (0xD4 ∷ [])) ≡ left 12 (0xD4 ∷ []) 0
unfolding opening open_suite keys_fit opened_as buffer
host_key_length = refl

card_key_length : pivsm_open_card (given 2 enc mac (zeros 17) (0xD4 ∷ [])) ≡ left 12 (0xD4 ∷ []) 0
unfolding opening open_suite keys_fit opened_as buffer
card_key_length = refl

host_no_room : pivsm_open_host (given 2 enc mac rmac (replicate 137 0xD4)) ≡ left 6 (replicate 137 0xD4) 138
unfolding opening open_suite keys_fit opened_as saved require◌else◌⨾◌ buffer
host_no_room = refl

card_no_room : pivsm_open_card (given 2 enc mac rmac (replicate 137 0xD4)) ≡ left 6 (replicate 137 0xD4) 138
unfolding opening open_suite keys_fit opened_as saved require◌else◌⨾◌ buffer
card_no_room = refl
