-- Bytes of saved sessions, computed.
--
use mathlib.Core.Path.{◌≡◌, refl}
use mathlib.Core.List.{[], ◌∷◌, ◌++◌}
use Rattle.octets.specs.Bytes.{zeros}
use Rattle.session.specs.Session.{closed_at, fresh}
use Rattle.session_turn.specs.Transitions.{command_taken}
use Rattle.session.specs.declared.Side.TheVariants.{Host, Card}
use Rattle.session_suite.specs.declared.Suite.TheVariants.{Cs2, Cs7}
use Rattle.session.specs.declared.Phase.TheVariants.{Pending}
use Rattle.session.specs.declared.Session.{Session}
use Rattle.session_rules.specs.Valid.{keeps_phase, valid}
use Rattle.session_rules.specs.ZeroBytes.{all_zero, keys_zero, mcvs_zero}
use Rattle.octets_numbers.specs.BigEndian.{big_endian, number_from, number_in}
use Rattle.session_bytes.specs.Answered.{answered, reading_answered}
use Rattle.session_bytes.specs.Saved.{header, keys, mcvs, encode, headed, session_from, decoded_to, unreadable, accepted, decode_suite, decode}

closed_card : encode (closed_at Card Cs7) ≡ 0x00 ∷ 0x88 ∷ 0x01 ∷ 0x01 ∷ 0x02 ∷ 0x07 ∷ zeros 132
unfolding encode header keys mcvs big_endian
closed_card = refl

-- every part at its place: SK_ENC, SK_MAC, SK_RMAC, the command's and the response's chaining value
marked : Session
marked =
    record {
      side = Host;
      phase = Pending;
      suite = Cs7;
      count = 258;
      sk_enc = 1 ∷ zeros 31;
      sk_mac = 2 ∷ zeros 31;
      sk_rmac = 3 ∷ zeros 31;
      command_mcv = 4 ∷ zeros 15;
      response_mcv = 5 ∷ zeros 15;
    }

places : encode marked
    ≡ 0x00 ∷ 0x88 ∷ 0x01 ∷ 0x00 ∷ 0x01 ∷ 0x07 ∷ 0x00 ∷ 0x00 ∷ 0x01 ∷ 0x02 ∷ 1 ∷ zeros 31 ++ 2 ∷ zeros 31 ++ 3 ∷ zeros 31 ++ 4 ∷ zeros 15 ++ 5 ∷ zeros 15
unfolding encode header keys mcvs marked big_endian
places = refl

-- a host that was opened, and one that waits for the response to its first command
fresh_host : header (fresh Host Cs2 (zeros 32) (zeros 32) (zeros 32)) ≡ 0x00 ∷ 0x88 ∷ 0x01 ∷ 0x00 ∷ 0x00 ∷ 0x02 ∷ zeros 4
unfolding header big_endian
fresh_host = refl

first_command : header (command_taken (fresh Host Cs2 (zeros 32) (zeros 32) (zeros 32)) (zeros 16))
    ≡ 0x00 ∷ 0x88 ∷ 0x01 ∷ 0x00 ∷ 0x01 ∷ 0x02 ∷ 0x00 ∷ 0x00 ∷ 0x00 ∷ 0x01 ∷ []
unfolding header big_endian
first_command = refl

read_back : decode (0x00 ∷ 0x88 ∷ 0x01 ∷ 0x01 ∷ 0x02 ∷ 0x07 ∷ zeros 132) ≡ decoded_to (closed_at Card Cs7)
unfolding decode headed decode_suite accepted session_from valid keeps_phase keys_zero mcvs_zero all_zero number_in number_from
read_back = refl

-- one byte less, one more, another version, another suite
one_byte_less : decode (0x00 ∷ 0x88 ∷ 0x01 ∷ 0x01 ∷ 0x02 ∷ 0x07 ∷ zeros 131) ≡ unreadable
unfolding decode headed number_in number_from
one_byte_less = refl

one_byte_more : decode (0x00 ∷ 0x88 ∷ 0x01 ∷ 0x01 ∷ 0x02 ∷ 0x07 ∷ zeros 133) ≡ unreadable
unfolding decode headed number_in number_from
one_byte_more = refl

version_2 : decode (0x00 ∷ 0x88 ∷ 0x02 ∷ 0x01 ∷ 0x02 ∷ 0x07 ∷ zeros 132) ≡ unreadable
unfolding decode headed number_in number_from
version_2 = refl

suite_3 : decode (0x00 ∷ 0x88 ∷ 0x01 ∷ 0x01 ∷ 0x02 ∷ 0x03 ∷ zeros 132) ≡ unreadable
unfolding decode headed decode_suite number_in number_from
suite_3 = refl

-- a closed session that has counted
closed_at_1 : decode (0x00 ∷ 0x88 ∷ 0x01 ∷ 0x01 ∷ 0x02 ∷ 0x07 ∷ 0x00 ∷ 0x00 ∷ 0x00 ∷ 0x01 ∷ zeros 128) ≡ unreadable
unfolding decode headed decode_suite accepted session_from valid keeps_phase number_in number_from
closed_at_1 = refl

-- the numbers of a reading that gives a session, and of one that does not
reading_numbers :
    reading_answered (decode (0x00 ∷ 0x88 ∷ 0x01 ∷ 0x01 ∷ 0x02 ∷ 0x07 ∷ zeros 132))
    ∷ reading_answered (decode (0x00 ∷ 0x88 ∷ 0x01 ∷ 0x01 ∷ 0x02 ∷ 0x07 ∷ zeros 131)) ∷ []
    ≡ answered 0 0 ∷ answered 16 0 ∷ []
unfolding decode headed decode_suite accepted session_from valid keeps_phase keys_zero mcvs_zero all_zero number_in number_from
reading_numbers = refl
