-- Calls worked out: everything that each leaves, of bytes that differ, so that none can stand for another.
use mathlib.Core.Path.{◌≡◌, refl}
use mathlib.Core.List.{[], ◌∷◌}
use Rattle.octets.specs.Bytes.{Bytes}
use Rattle.octets.specs.Write.{put}
use Rattle.message_answer.specs.Answer.{require◌else◌⨾◌}
use Rattle.chain_command.specs.Apdu.{is_chained, is_last, well_formed}
use Rattle.chain_command.specs.Reassembly.{possible, continues, reassembly_checks, taken, concluded, reassemble_command, written, reassembly_buffer}
use Rattle.capi_reassemble_command.specs.ChainNumbers.{chain_number, chain_of}
use Rattle.capi_reassemble_command.specs.Call.{given, left, pivsm_reassemble_command}

abbrev room : Bytes
room = 0xE0 ∷ 0xE1 ∷ 0xE2 ∷ 0xE3 ∷ 0xE4 ∷ []

-- two bytes, and the chain's number: length, INS, P1 and P2
more : pivsm_reassemble_command (given 0 (0x1C ∷ 0x87 ∷ 0x11 ∷ 0x9A ∷ 2 ∷ 0x23 ∷ 0x24 ∷ []) room)
    ≡ left 0 0x0287119A (0x23 ∷ 0x24 ∷ 0xE2 ∷ 0xE3 ∷ 0xE4 ∷ []) 2 0x9000 0 0 0
unfolding reassemble_command concluded taken reassembly_checks require◌else◌⨾◌ possible continues well_formed is_chained is_last
    reassembly_buffer written put chain_number chain_of
more = refl

-- a third behind them makes it whole
whole : pivsm_reassemble_command (given 0x0287119A (0x0C ∷ 0x87 ∷ 0x11 ∷ 0x9A ∷ 1 ∷ 0x25 ∷ 0x00 ∷ []) room)
    ≡ left 0 0 (0xE0 ∷ 0xE1 ∷ 0x25 ∷ 0xE3 ∷ 0xE4 ∷ []) 3 0 0x87 0x11 0x9A
unfolding reassemble_command concluded taken reassembly_checks require◌else◌⨾◌ possible continues well_formed is_chained is_last
    reassembly_buffer written put chain_number chain_of
whole = refl

-- refused: the buffer stays, the chain is empty, and the length is 0, but for the one needed at 6
malformed : pivsm_reassemble_command (given 0x0287119A (0x0C ∷ 0x87 ∷ 0x11 ∷ 0x9A ∷ 1 ∷ 0x25 ∷ []) room) ≡ left 7 0 room 0 0 0 0 0
unfolding reassemble_command concluded reassembly_checks require◌else◌⨾◌ well_formed is_chained is_last
    reassembly_buffer written chain_number chain_of
malformed = refl

another_header : pivsm_reassemble_command (given 0x0287119A (0x0C ∷ 0x87 ∷ 0x9A ∷ 0x11 ∷ 1 ∷ 0x25 ∷ 0x00 ∷ []) room) ≡ left 14 0 room 0 0 0 0 0
unfolding reassemble_command concluded reassembly_checks require◌else◌⨾◌ possible continues well_formed is_chained is_last
    reassembly_buffer written chain_number chain_of
another_header = refl

too_long : pivsm_reassemble_command (given 0x81287119A (0x0C ∷ 0x87 ∷ 0x11 ∷ 0x9A ∷ 1 ∷ 0x25 ∷ 0x00 ∷ []) room) ≡ left 4 0 room 0 0 0 0 0
unfolding reassemble_command concluded reassembly_checks require◌else◌⨾◌ possible continues well_formed is_chained is_last
    reassembly_buffer written chain_number chain_of
too_long = refl

no_room : pivsm_reassemble_command (given 0x0487119A (0x1C ∷ 0x87 ∷ 0x11 ∷ 0x9A ∷ 2 ∷ 0x23 ∷ 0x24 ∷ []) room) ≡ left 6 0 room 6 0 0 0 0
unfolding reassemble_command concluded reassembly_checks require◌else◌⨾◌ possible continues well_formed is_chained is_last
    reassembly_buffer written chain_number chain_of
no_room = refl
