-- Rule 8.1: a session as 138 bytes, and back. Numbers are big-endian.
use Rattle.std.specs.Prelude.{Bool, ◌&&◌, ◌∷◌, ◌++◌, ℕ, ◌-◌, eqb, leb, length, get_or, take, drop, if◌then◌else◌, Option, Some, None, Result, Ok, Err}
use Rattle.octets.specs.Bytes.{Bytes}
use Rattle.octets_numbers.specs.BigEndian.{big_endian, number_in}
use Rattle.refusal.specs.declared.Refusal.{Refusal}
use Rattle.refusal.specs.declared.Refusal.TheVariants.{BadSession}
use Rattle.session_suite.specs.Suites.{number, suite_of}
use Rattle.session.specs.declared.Side.{Side}
use Rattle.session.specs.declared.Side.TheVariants.{Host, Card}
use Rattle.session.specs.declared.Phase.{Phase}
use Rattle.session.specs.declared.Phase.TheVariants.{Ready, Pending, Closed}
use Rattle.session_suite.specs.declared.Suite.{Suite}
use Rattle.session.specs.declared.Session.{Session}
use Rattle.session_rules.specs.Valid.{valid}

-- the length of a saved session
abbrev pub session_size : ℕ
session_size = 138

-- ---- writing

abbrev pub side_number : Side → ℕ
side_number Host = 0
side_number Card = 1

abbrev pub phase_number : Phase → ℕ
phase_number Ready = 0
phase_number Pending = 1
phase_number Closed = 2

-- length of the rest (00 88), version, side, phase, suite, count
unfoldable pub header : Session → Bytes
header s =
    big_endian 2 (session_size - 2) ++ 0x01 ∷ side_number s.side ∷ phase_number s.phase ∷ number s.suite
    ∷ big_endian 4 s.count

unfoldable pub keys : Session → Bytes
keys s = s.sk_enc ++ s.sk_mac ++ s.sk_rmac

unfoldable pub mcvs : Session → Bytes
mcvs s = s.command_mcv ++ s.response_mcv

unfoldable pub encode : Session → Bytes
encode s = header s ++ keys s ++ mcvs s

-- ---- reading

-- n bytes from index at on
abbrev pub part : Bytes → ℕ → ℕ → Bytes
part b at n = take n (drop at b)

-- 138 bytes: length of the rest 00 88, version 01, side 0 or 1, phase 0, 1 or 2
unfoldable pub headed : Bytes → Bool
headed b =
    eqb (length b) session_size && eqb (number_in (part b 0 2)) (session_size - 2) && eqb (get_or b 2 0) 0x01
    && leb (get_or b 3 0) 1 && leb (get_or b 4 0) 2

abbrev pub side_from : ℕ → Side
side_from n = if eqb n 0 then Host else Card

abbrev pub phase_from : ℕ → Phase
phase_from n = if eqb n 0 then Ready else (if eqb n 1 then Pending else Closed)

abbrev pub count_from : Bytes → ℕ
count_from b = number_in (part b 6 4)

unfoldable pub session_from : Bytes → Suite → Session
session_from b suite =
    record {
      side = side_from (get_or b 3 0);
      phase = phase_from (get_or b 4 0);
      suite = suite;
      count = count_from b;
      sk_enc = part b 10 32;
      sk_mac = part b 42 32;
      sk_rmac = part b 74 32;
      command_mcv = part b 106 16;
      response_mcv = part b 122 16;
    }

-- the session, or 16
abbrev pub Decoded : Type 0
Decoded = Result Session Refusal

abbrev pub decoded_to : Session → Decoded
decoded_to s = Ok s

abbrev pub unreadable : Decoded
unreadable = Err BadSession

-- a session that keeps the rules
unfoldable pub accepted : Session → Decoded
accepted s = if valid s then decoded_to s else unreadable

unfoldable pub decode_suite : Bytes → Option Suite → Decoded
decode_suite b (Some suite) = accepted (session_from b suite)
decode_suite b None = unreadable

unfoldable pub decode : Bytes → Decoded
decode b = if headed b then decode_suite b (suite_of (get_or b 5 0)) else unreadable
