-- Calls worked out: everything that each leaves, of bytes that differ, so that none can stand for another.
use mathlib.Core.Path.{◌≡◌, refl}
use mathlib.Core.List.{[], ◌∷◌}
use Rattle.octets.specs.Bytes.{Bytes, zeros}
use Rattle.octets.specs.Write.{over}
use Rattle.message_answer.specs.Answer.{require◌else◌⨾◌, buffer}
use Rattle.chain_command.specs.Apdu.{fragment_apdu}
use Rattle.chain_command.specs.Fragment.{fragment_size, fragment_count, fragment, fragment_command}
use Rattle.capi_fragment_command.specs.Call.{given, left, pivsm_fragment_command}

abbrev field : Bytes
field = 0x21 ∷ 0x22 ∷ 0x23 ∷ 0x24 ∷ 0x25 ∷ []

abbrev room9 : Bytes
room9 = 0xE0 ∷ 0xE1 ∷ 0xE2 ∷ 0xE3 ∷ 0xE4 ∷ 0xE5 ∷ 0xE6 ∷ 0xE7 ∷ 0xE8 ∷ []

abbrev room6 : Bytes
room6 = 0xE0 ∷ 0xE1 ∷ 0xE2 ∷ 0xE3 ∷ 0xE4 ∷ 0xE5 ∷ []

-- five bytes by two: the second fragment, and the last; the buffer keeps what stands behind
more : pivsm_fragment_command (given 0x87 0x11 0x9A field 2 1 room9)
    ≡ left 0 (0x1C ∷ 0x87 ∷ 0x11 ∷ 0x9A ∷ 2 ∷ 0x23 ∷ 0x24 ∷ 0xE7 ∷ 0xE8 ∷ []) 7
unfolding fragment_command require◌else◌⨾◌ fragment fragment_size fragment_count fragment_apdu buffer over
more = refl

last : pivsm_fragment_command (given 0x87 0x11 0x9A field 2 2 room9)
    ≡ left 0 (0x0C ∷ 0x87 ∷ 0x11 ∷ 0x9A ∷ 1 ∷ 0x25 ∷ 0x00 ∷ 0xE7 ∷ 0xE8 ∷ []) 7
unfolding fragment_command require◌else◌⨾◌ fragment fragment_size fragment_count fragment_apdu buffer over
last = refl

-- refused: the buffer stays, and the length is 0, but for the one needed at 6
fragment_too_long : pivsm_fragment_command (given 0x87 0x11 0x9A field 256 2 room9) ≡ left 15 room9 0
unfolding fragment_command require◌else◌⨾◌ buffer
fragment_too_long = refl

field_too_long : pivsm_fragment_command (given 0x87 0x11 0x9A (zeros 2067) 2 2 room9) ≡ left 4 room9 0
unfolding fragment_command require◌else◌⨾◌ buffer
field_too_long = refl

no_such_fragment : pivsm_fragment_command (given 0x87 0x11 0x9A field 2 3 room9) ≡ left 14 room9 0
unfolding fragment_command require◌else◌⨾◌ fragment_size fragment_count buffer
no_such_fragment = refl

no_room : pivsm_fragment_command (given 0x87 0x11 0x9A field 2 1 room6) ≡ left 6 room6 7
unfolding fragment_command require◌else◌⨾◌ fragment fragment_size fragment_count fragment_apdu buffer
no_room = refl
