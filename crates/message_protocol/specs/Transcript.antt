-- Rules 9.1 to 9.4: the calls, and the transcript that is kept of them (also called a "book").
-- Four logs, made from the calls' arguments and answers and the keys as given at opening, never from a session.
-- Sessions come in only where the calls as defined are run, in the last part.
use Rattle.std.specs.Prelude.{List, [], ◌∷◌, map, ℕ, length, get_or, Result, Ok, Err}
use Rattle.octets.specs.Bytes.{Bytes, zeros}
use Rattle.field_read.specs.Field.{none, read_field, covered_of}
use Rattle.field_read.specs.declared.Objects.{Objects}
use Rattle.field_read.specs.declared.FieldError.{FieldError}
use Rattle.field_write.specs.Objects.{command_objects, response_objects}
use Rattle.message_mac.specs.MacInput.{response_mac_input}
use Rattle.apdu.specs.declared.Header.{Header}
use Rattle.session.specs.Session.{closed}
use Rattle.session_suite.specs.StoredKeys.{Keys}
use Rattle.session.specs.declared.Side.{Side}
use Rattle.session.specs.declared.Side.TheVariants.{Host, Card}
use Rattle.session.specs.declared.Session.{Session}
use Rattle.message_ciphers.specs.Ciphers.{Ciphers}
use Rattle.message_answer.specs.Message.{CommandHeader, command_header, StatusWord, Command, Response, CommandGiven}
use Rattle.message_permission.specs.Permission.{command_wanted, response_wanted}
use Rattle.message_counter.specs.Counter.{command_counter, response_counter}
use Rattle.message_answer.specs.Answer.{Answer, refused, gave, Out}
use Rattle.message_exchange.specs.Exchange as exchange
use Rattle.message_exchange.specs.Exchange.{Entry, Log, inputs, Direction, wraps, accepts}
pub use Rattle.message_exchange.specs.Exchange.{empty}
use Rattle.message_protocol.specs.Command.{command_input, header_read, host_wraps, card_unwraps}
use Rattle.message_protocol.specs.Response.{card_wraps, host_unwraps}

-- ---- calls

-- the side that a call is made at, and its arguments but for the session; the last number is the size of the caller's
-- buffer
pub data Call : Type 0 where
  wrap_command : Side → Command → ℕ → Call
  unwrap_command : Side → Header → Bytes → ℕ → Call
  wrap_response : Side → Response → ℕ → Call
  unwrap_response : Side → StatusWord → Bytes → ℕ → Call
  close : Side → Call

-- what a call gives where it is not refused
abbrev pub Gives : Call → Type 0
Gives (wrap_command side m room) = Bytes
Gives (unwrap_command side header field room) = CommandGiven
Gives (wrap_response side m room) = Bytes
Gives (unwrap_response side sw field room) = Response
Gives (close side) = Unit {0}

-- ---- the transcript

abbrev pub Transcript : Type 0
Transcript = exchange.Transcript CommandHeader StatusWord

module _ (C : Ciphers) where
  -- a sender's chaining values: the zero start, and the full MAC of each input
  unfoldable pub chaining_values : Bytes → List Bytes → List Bytes
  chaining_values key sent = zeros 16 ∷ map (C.mac key) sent

  -- the last of them, with which the next entry's input begins
  unfoldable pub chaining : {H : Type 0} → Bytes → Log H → Bytes
  chaining key log = get_or (chaining_values key (inputs log)) (length log) []

module _ (C : Ciphers) (K : Keys) where
  abbrev pub commands : Direction CommandHeader
  commands =
      record {
        encrypt = λ place d. C.encrypt K.enc (command_counter place) d;
        objects = λ h c. command_objects c h.le;
        input = λ log h covered. command_input (chaining C K.mac log) h covered;
        mac = C.mac K.mac;
      }

  abbrev pub responses : Direction StatusWord
  responses =
      record {
        encrypt = λ place d. C.encrypt K.enc (response_counter place) d;
        objects = λ sw c. response_objects c sw.sw1 sw.sw2;
        input = λ log sw covered. response_mac_input (chaining C K.rmac log) covered;
        mac = C.mac K.rmac;
      }

-- the objects of a field; of one that is not accepted, none
abbrev pub objects_read : Result Objects FieldError → Objects
objects_read (Ok o) = o
objects_read (Err e) = none

abbrev pub command_read : ℕ → Bytes → Objects
command_read ins field = objects_read (read_field (command_wanted ins) field)

abbrev pub response_read : StatusWord → Bytes → Objects
response_read sw field = objects_read (read_field (response_wanted sw) field)

module _ (C : Ciphers) (K : Keys) where
  -- an unwrap after a log: its input is of the bytes received
  unfoldable pub accepted_command : Header → Bytes → CommandGiven → Log CommandHeader → Entry CommandHeader
  accepted_command header field g log =
      let o = command_read header.ins field in
      record {
        message = record { header = command_header header g.le; payload = g.payload };
        input = (commands C K).input log (header_read header o) (covered_of field o);
      }

  unfoldable pub accepted_response : StatusWord → Bytes → Response → Log StatusWord → Entry StatusWord
  accepted_response sw field m log =
      record { message = m; input = (responses C K).input log sw (covered_of field (response_read sw field)) }

  -- what a call that was not refused adds
  unfoldable pub noted : Transcript → (c : Call) → Gives c → Transcript
  noted t (wrap_command side m room) field =
      record { commands = wraps (commands C K) m field t.commands; responses = t.responses }
  noted t (unwrap_command side header field room) g =
      let e = accepted_command header field g t.commands.accepted in
      record { commands = accepts e t.commands; responses = t.responses }
  noted t (wrap_response side m room) field =
      record { commands = t.commands; responses = wraps (responses C K) m field t.responses }
  noted t (unwrap_response side sw field room) m =
      let e = accepted_response sw field m t.responses.accepted in
      record { commands = t.commands; responses = accepts e t.responses }
  noted t (close side) u = t

  -- a refused call adds nothing
  unfoldable pub entered : Transcript → (c : Call) → Answer (Gives c) → Transcript
  entered t c (refused r) = t
  entered t c (gave a) = noted t c a

-- ---- runs of the calls as defined

-- the call made with a session
unfoldable pub does : Ciphers → Session → (c : Call) → Out (Gives c)
does C s (wrap_command side m room) = host_wraps C s m room
does C s (unwrap_command side header field room) = card_unwraps C s header field room
does C s (wrap_response side m room) = card_wraps C s m room
does C s (unwrap_response side sw field room) = host_unwraps C s sw field room
does C s (close side) = record { answer = gave tt; next = closed s }

abbrev pub side_of : Call → Side
side_of (wrap_command side m room) = side
side_of (unwrap_command side header field room) = side
side_of (wrap_response side m room) = side
side_of (unwrap_response side sw field room) = side
side_of (close side) = side

-- the two sessions, each the one that the call before it at its side left, and the transcript
pub record State : Type 0 where
  pub host : Session
  pub card : Session
  pub transcript : Transcript

abbrev pub session_at : State → Side → Session
session_at st Host = st.host
session_at st Card = st.card

unfoldable pub moved : State → Side → Session → Transcript → State
moved st Host s t = record { host = s; card = st.card; transcript = t }
moved st Card s t = record { host = st.host; card = s; transcript = t }

module _ (C : Ciphers) (K : Keys) where
  unfoldable pub step : State → Call → State
  step st c =
      let out = does C (session_at st (side_of c)) c in
      moved st (side_of c) out.next (entered C K st.transcript c out.answer)

  unfoldable pub run : State → List Call → State
  run st [] = st
  run st (c ∷ cs) = run (step st c) cs

abbrev pub start : Session → Session → State
start h c = record { host = h; card = c; transcript = empty }
