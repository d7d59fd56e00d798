-- Rules 9.2 and 9.3, for every standard of secure messaging: the transcript of commands and responses (also called a "book") has two
-- logs ("rows") for each direction. A standard says what a direction is.
use Rattle.std.specs.Prelude.{◌≡◌, List, [], ◌∷◌, ◌++◌, map, ℕ, suc, ◌+◌, ◌≤◌, length, take}
use Rattle.octets.specs.Bytes.{Bytes}
use Rattle.field_write.specs.Objects.{mac_object}
use Rattle.message_answer.specs.Message.{Message}

-- ---- one direction

-- the message as handed in to a wrap or given by an unwrap, and its MAC input
pub record Entry (H : Type 0) : Type 0 where
  pub message : Message H
  pub input : Bytes

-- entry k, from 1, stands at place k
abbrev pub Log : Type 0 → Type 0
Log H = List (Entry H)

abbrev pub messages : {H : Type 0} → Log H → List (Message H)
messages log = map (λ e. e.message) log

abbrev pub inputs : {H : Type 0} → Log H → List Bytes
inputs log = map (λ e. e.input) log

-- what one end wrapped, the fields that it handed out for it, and what the other end accepted
pub record Logs (H : Type 0) : Type 0 where
  pub wrapped : Log H
  pub fields : List Bytes
  pub accepted : Log H

-- a direction, under its keys
pub record Direction (H : Type 0) : Type 0 where
  -- the data of the message at a place, encrypted
  pub encrypt : ℕ → Bytes → Bytes
  -- the objects before '8E', of a header and encrypted data
  pub objects : H → Bytes → Bytes
  -- the MAC input of the message after a log, of its header and the field's bytes before '8E'
  pub input : Log H → H → Bytes → Bytes
  -- the full MAC of an input
  pub mac : Bytes → Bytes

module _ {H : Type 0} (D : Direction H) where
  -- the objects that the wrap of a message at a place makes
  abbrev pub objects_at : ℕ → Message H → Bytes
  objects_at place m = D.objects m.header (D.encrypt place m.payload)

  -- a wrap after a log: its input is of the objects that it makes
  unfoldable pub wrap_entry : Message H → Log H → Entry H
  wrap_entry m log = record { message = m; input = D.input log m.header (objects_at (suc (length log)) m) }

  -- the field of an entry: the objects, and '8E' with the first 8 bytes of the input's full MAC
  unfoldable pub field_of : ℕ → Entry H → Bytes
  field_of place e = objects_at place e.message ++ mac_object (take 8 (D.mac e.input))

  -- the fields of a log whose first entry stands at that place
  unfoldable pub fields_from : ℕ → Log H → List Bytes
  fields_from place [] = []
  fields_from place (e ∷ log) = field_of place e ∷ fields_from (suc place) log

  -- what a wrap adds, with the field that it handed out
  abbrev pub wraps : Message H → Bytes → Logs H → Logs H
  wraps m field l =
      let e = wrap_entry m l.wrapped in
      record { wrapped = l.wrapped ++ e ∷ []; fields = l.fields ++ field ∷ []; accepted = l.accepted }

-- what an unwrap adds
abbrev pub accepts : {H : Type 0} → Entry H → Logs H → Logs H
accepts e l = record { wrapped = l.wrapped; fields = l.fields; accepted = l.accepted ++ e ∷ [] }

-- each accepted message is the one that was wrapped at the same place
abbrev pub SameMessages : {H : Type 0} → Logs H → Type 0
SameMessages l = messages l.accepted ≡ take (length l.accepted) (messages l.wrapped)

-- ---- both directions

pub record Transcript (H R : Type 0) : Type 0 where
  pub commands : Logs H
  pub responses : Logs R

abbrev pub empty_logs : {H : Type 0} → Logs H
empty_logs = record { wrapped = []; fields = []; accepted = [] }

abbrev pub empty : {H R : Type 0} → Transcript H R
empty = record { commands = empty_logs; responses = empty_logs }

-- with w commands wrapped, a accepted, s responses wrapped and r accepted, r ≤ s ≤ a ≤ w ≤ r + 1; and in each direction
-- the same messages at the same places, and for each wrap the field of its entry
pub record Agrees {H R : Type 0} (commands : Direction H) (responses : Direction R) (t : Transcript H R) : Type 0 where
  pub r≤s : length t.responses.accepted ≤ length t.responses.wrapped
  pub s≤a : length t.responses.wrapped ≤ length t.commands.accepted
  pub a≤w : length t.commands.accepted ≤ length t.commands.wrapped
  pub w≤r+1 : length t.commands.wrapped ≤ length t.responses.accepted + 1
  pub commands_agree : SameMessages t.commands
  pub responses_agree : SameMessages t.responses
  pub commands_written : t.commands.fields ≡ fields_from commands 1 t.commands.wrapped
  pub responses_written : t.responses.fields ≡ fields_from responses 1 t.responses.wrapped
