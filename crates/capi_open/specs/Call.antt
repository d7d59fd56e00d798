-- pivsm_open_host and pivsm_open_card of c/include/pivsm.h: an opening, and its session's bytes in the caller's buffer.
use Rattle.std.specs.Prelude.{◌≡◌, true, ℕ, leb, length, Result, Ok, Err}
use Rattle.octets.specs.Bytes.{Bytes}
use Rattle.refusal.specs.Refusal.{size}
use Rattle.refusal.specs.declared.Refusal.{Refusal}
use Rattle.refusal.specs.declared.Refusal.TheVariants.{BufferTooSmall}
use Rattle.session_suite.specs.StoredKeys.{Keys, keys}
use Rattle.session.specs.Opening.{Opened, opening}
use Rattle.session.specs.declared.Side.{Side}
use Rattle.session.specs.declared.Side.TheVariants.{Host, Card}
use Rattle.session.specs.declared.Session.{Session}
use Rattle.session_rules.specs.Valid.{valid}
use Rattle.session_bytes.specs.Saved.{session_size, encode}
use Rattle.message_answer.specs.Answer.{Answer, refused, gave, require◌else◌⨾◌, buffer}
use Rattle.capi_values.specs.Values.{number_of}

-- what the call is given: the suite's number, the three keys, and the buffer for the session
pub record Given : Type 0 where
  pub suite : ℕ
  pub keys : Keys
  pub session : Bytes

abbrev pub given : ℕ → Bytes → Bytes → Bytes → Bytes → Given
given suite enc mac rmac session = record { suite = suite; keys = keys enc mac rmac; session = session }

-- what it leaves: the result's number, and what stands in the caller's buffer and number
pub record Left : Type 0 where
  pub number : ℕ
  pub session : Bytes
  pub len : ℕ

abbrev pub left : ℕ → Bytes → ℕ → Left
left number session len = record { number = number; session = session; len = len }

-- a session that was opened keeps the rules of a session
abbrev pub OpenedValid : Opened → Type 0
OpenedValid o = o.answer ≡ Ok tt → valid o.next ≡ true

-- the session's bytes: 6 where there is no room for them
unfoldable pub saved : Session → ℕ → Answer Bytes
saved s room = require leb session_size room else BufferTooSmall session_size ⨾ gave (encode s)

-- of a session that was opened; 11 and 12 come first
unfoldable pub opened_as : Result (Unit {0}) Refusal → Session → ℕ → Answer Bytes
opened_as (Ok u) s room = saved s room
opened_as (Err r) s room = refused r

-- the length of the session, the length needed, or 0
abbrev pub opened_len : Answer Bytes → ℕ
opened_len (refused r) = size r
opened_len (gave bytes) = session_size

abbrev pub leaves : Bytes → Answer Bytes → Left
leaves before a = left (number_of a) (buffer (λ bytes. bytes) before a) (opened_len a)

abbrev pub leaves_opened : Bytes → Opened → Left
leaves_opened before o = leaves before (opened_as o.answer o.next (length before))

abbrev pub pivsm_open : Side → Given → Left
pivsm_open side g = leaves_opened g.session (opening side g.suite g.keys)

abbrev pub pivsm_open_host : Given → Left
pivsm_open_host = pivsm_open Host

abbrev pub pivsm_open_card : Given → Left
pivsm_open_card = pivsm_open Card
