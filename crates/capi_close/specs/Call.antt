-- pivsm_close of c/include/pivsm.h: closing the session that the caller's bytes hold.
use Rattle.std.specs.Prelude.{ℕ}
use Rattle.octets.specs.Bytes.{Bytes}
use Rattle.session.specs.Session.{closed}
use Rattle.session.specs.declared.Session.{Session}
use Rattle.message_answer.specs.Answer.{gave, Out}
use Rattle.capi_values.specs.Values.{number_of}
use Rattle.capi_session.specs.SessionBytes.{Served, Held, held_in, on_session}

-- what the call is given: the session's buffer and length
pub record Given : Type 0 where
  pub held : Held

abbrev pub given : Bytes → ℕ → Given
given session len = record { held = held_in session len }

-- what it leaves: the result's number, and the session's buffer and length
pub record Left : Type 0 where
  pub number : ℕ
  pub held : Held

abbrev pub left : ℕ → Bytes → ℕ → Left
left number session len = record { number = number; held = held_in session len }

-- closing always succeeds, where there is a session
abbrev pub closes : Session → Out (Unit {0})
closes s = record { answer = gave tt; next = closed s }

abbrev pub served : Given → Served Held (Unit {0})
served g = on_session g.held closes

abbrev pub leaves : Served Held (Unit {0}) → Left
leaves x = record { number = number_of x.answer; held = x.held }

abbrev pub pivsm_close : Given → Left
pivsm_close g = leaves (served g)
