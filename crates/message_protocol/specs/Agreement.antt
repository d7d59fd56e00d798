-- Demand 3, of the calls as defined: after every call of every list the transcript agrees, or some call broke a MAC.
-- In the terms of protocol analysis: injective agreement.
use Rattle.std.specs.Prelude.{◌≡◌, Ok, ◌⊎◌, ℕ, ◌<◌, length, take, get_or}
use mathlib.Core.List.{List, [], ◌∷◌, Memᴰ}
use Rattle.octets.specs.Bytes.{Bytes, IsBytes}
use Rattle.field_read.specs.Field.{mac_of}
use Rattle.session_suite.specs.StoredKeys.{KeysOfBytes, Keys}
use Rattle.session.specs.Opening.{opening}
use Rattle.session.specs.declared.Side.TheVariants.{Host, Card}
use Rattle.message_ciphers.specs.Ciphers.{Ciphers}
use Rattle.message_answer.specs.Answer.{Answer, refused, gave}
use Rattle.message_exchange.specs.Exchange as exchange
use Rattle.message_exchange.specs.Exchange.{inputs}
use Rattle.message_protocol.specs.Transcript.{Call, wrap_command, unwrap_command, wrap_response, unwrap_response, close, side_of, Gives, does, Transcript, chaining_values, commands, responses, command_read, response_read, accepted_command, accepted_response, State, session_at, step, run, start}

-- ---- what holds of a transcript

-- r ≤ s ≤ a ≤ w ≤ r + 1; each accepted message is the one that the other end wrapped at the same place; and each field
-- that was handed out is that of its entry
abbrev pub Agrees : Ciphers → Keys → Transcript → Type 0
Agrees C K t = exchange.Agrees (commands C K) (responses C K) t

-- ---- where it may cease

-- two of a sender's chaining values so far, the zero start included, are equal
pub record Collision (C : Ciphers) (key : Bytes) (sent : List Bytes) : Type 0 where
  pub i : ℕ
  pub j : ℕ
  pub i<j : i < j
  pub within : j < length (chaining_values C key sent)
  pub equal : get_or (chaining_values C key sent) i [] ≡ get_or (chaining_values C key sent) j []

-- an acceptance whose '8E' holds the first 8 bytes of its input's full MAC, and the sender had not yet MACed that input
-- in that direction, or two of its chaining values there are equal
pub record MacBreak (C : Ciphers) (key : Bytes) (sent : List Bytes) (input mac : Bytes) : Type 0 where
  pub right : mac ≡ take 8 (C.mac key input)
  pub cause : (Memᴰ input sent → ⊥) ⊎ Collision C key sent

module _ (C : Ciphers) (K : Keys) where
  -- of a call that was not refused, with the transcript before it
  abbrev pub Breaks : Transcript → (c : Call) → Gives c → Type 0
  Breaks t (wrap_command side m room) field = ⊥
  Breaks t (unwrap_command side header field room) g =
      let e = accepted_command C K header field g t.commands.accepted in
      MacBreak C K.mac (inputs t.commands.wrapped) e.input (mac_of field (command_read header.ins field))
  Breaks t (wrap_response side m room) field = ⊥
  Breaks t (unwrap_response side sw field room) m =
      let e = accepted_response C K sw field m t.responses.accepted in
      MacBreak C K.rmac (inputs t.responses.wrapped) e.input (mac_of field (response_read sw field))
  Breaks t (close side) u = ⊥

  abbrev pub BreaksIn : Transcript → (c : Call) → Answer (Gives c) → Type 0
  BreaksIn t c (refused r) = ⊥
  BreaksIn t c (gave a) = Breaks t c a

-- ---- the demand, of the calls as defined

module _ (C : Ciphers) (K : Keys) where
  -- one of the calls is such an acceptance
  abbrev pub Excepted : State → List Call → Type 0
  Excepted st [] = ⊥
  Excepted st (c ∷ cs) =
      BreaksIn C K st.transcript c (does C (session_at st (side_of c)) c).answer ⊎ Excepted (step C K st c) cs

-- data that is wrapped is bytes
abbrev pub CallBytes : Call → Type 0
CallBytes (wrap_command side m room) = IsBytes m.payload
CallBytes (unwrap_command side header field room) = Unit {0}
CallBytes (wrap_response side m room) = IsBytes m.payload
CallBytes (unwrap_response side sw field room) = Unit {0}
CallBytes (close side) = Unit {0}

abbrev pub AllBytes : List Call → Type 0
AllBytes [] = Unit {0}
AllBytes (c ∷ cs) = CallBytes c × AllBytes cs

-- after every call of every list that begins with two openings that were not refused, with the same keys
abbrev pub Agreement : Ciphers → Type 0
Agreement C =
    (host_suite card_suite : ℕ) (K : Keys) → KeysOfBytes K
    → (opening Host host_suite K).answer ≡ Ok tt → (opening Card card_suite K).answer ≡ Ok tt
    → (calls : List Call) → AllBytes calls → (n : ℕ)
    → let st = start (opening Host host_suite K).next (opening Card card_suite K).next in
    Agrees C K (run C K st (take n calls)).transcript ⊎ Excepted C K st (take n calls)
