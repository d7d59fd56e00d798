-- A call from C on a session that its caller holds as bytes. Bytes that hold no session are answered 16, before all
-- else and at closing too.
use Rattle.std.specs.Prelude.{Bool, ◌||◌, ℕ, eqb, leb, length, take, Ok, Err}
use Rattle.octets.specs.Bytes.{Bytes}
use Rattle.std.specs.Prelude.{if◌then◌else◌}
use Rattle.octets.specs.Write.{over}
use Rattle.refusal.specs.Refusal.{number}
use Rattle.refusal.specs.declared.Refusal.TheVariants.{BadMac, BadPadding}
use Rattle.session.specs.declared.Session.{Session}
use Rattle.session_bytes.specs.Saved.{Decoded, session_size, encode, decode, unreadable}
use Rattle.message_answer.specs.Answer.{Answer, refused, Out}

-- ---- any way to hold a session

-- how the session is read from what is held, and how the next one is put in its place
pub record Holder (H : Type 0) : Type 0 where
  pub read : H → Decoded
  pub put : H → Session → H

-- a call's answer, and what is held after it
pub record Served (H A : Type 0) : Type 0 where
  pub answer : Answer A
  pub held : H

-- the next session is put in the place of the one that was read; all stays as it was where none could be read
unfoldable pub served_by : {H A : Type 0} → Decoded → (Session → H) → H → (Session → Out A) → Served H A
served_by (Ok s) put held call = record { answer = (call s).answer; held = put (call s).next }
served_by (Err r) put held call = record { answer = refused r; held = held }

abbrev pub on_holder : {H A : Type 0} → Holder H → H → (Session → Out A) → Served H A
on_holder by held call = served_by (by.read held) (by.put held) held call

-- ---- a buffer of the session's own

-- the buffer, and the length of the session at its start
pub record Held : Type 0 where
  pub bytes : Bytes
  pub len : ℕ

abbrev pub held_in : Bytes → ℕ → Held
held_in bytes len = record { bytes = bytes; len = len }

-- a length beyond the buffer can't be read
unfoldable pub session_in : Held → Decoded
session_in h = if leb h.len (length h.bytes) then decode (take h.len h.bytes) else unreadable

unfoldable pub put_in : Held → Session → Held
put_in h s = held_in (over h.bytes (encode s)) session_size

abbrev pub own_buffer : Holder Held
own_buffer = record { read = session_in; put = put_in }

abbrev pub on_session : {A : Type 0} → Held → (Session → Out A) → Served Held A
on_session held call = on_holder own_buffer held call

-- ---- where the session changes

-- by the call's result: done, or refused with a wrong MAC or wrong padding
abbrev pub changes : ℕ → Bool
changes n = eqb n 0 || (eqb n (number BadMac) || eqb n (number BadPadding))

-- a buffer is written where its session changes and nowhere else
unfoldable pub replaced : ℕ → Session → Held → Held
replaced n next h = if changes n then put_in h next else h
