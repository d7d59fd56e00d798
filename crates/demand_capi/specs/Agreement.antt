-- Demand 3, of the calls from C, with the bytes of each end's session handed on from call to call. A host and a card
-- are opened with the same keys; then come any calls at either end, refused ones and closings included, with any
-- bytes. After each of them the accepted messages are the first of those that the other end wrapped, in their order,
-- and no end is more than one exchange ahead; unless a call so far was an acceptance under a right MAC of an input
-- that the sender had not MACed, or with two equal chaining values of the sender's.
use Rattle.std.specs.Prelude.{◌≡◌, Bool, true, false, ◌||◌, ◌⊎◌, List, [], ◌∷◌, map, ℕ, eqb, length, take}
use Rattle.octets.specs.Bytes.{Bytes}
use Rattle.refusal.specs.Refusal.{number}
use Rattle.refusal.specs.declared.Refusal.TheVariants.{SessionClosed, BadMac, BadPadding, BadSession}
use Rattle.session_suite.specs.StoredKeys.{Keys}
use Rattle.session.specs.Opening.{opening}
use Rattle.session.specs.declared.Side.{Side}
use Rattle.session.specs.declared.Side.TheVariants.{Host, Card}
use Rattle.message_ciphers.specs.Aes.{aes_ciphers}
use Rattle.message_protocol.specs.Transcript.{Transcript, entered, empty, start as startRun}
use Rattle.message_protocol.specs.Agreement.{Agrees, BreaksIn, Excepted as ExceptedRun}
use Rattle.demand_capi.specs.Calls.{OpensHost, OpensCard, open_host_given, open_host_left, open_card_given, open_card_left, opened, Event, wraps_command, unwraps_command, wraps_response, unwraps_response, closes, end, seen, call, answer}

-- an end: the bytes of its session, and whether a call has closed it
pub record End : Type 0 where
  pub bytes : Bytes
  pub closed : Bool

pub record State : Type 0 where
  pub host : End
  pub card : End
  pub transcript : Transcript

abbrev pub at : State → Side → End
at st Host = st.host
at st Card = st.card

abbrev pub moved : State → Side → End → Transcript → State
moved st Host x t = record { host = x; card = st.card; transcript = t }
moved st Card x t = record { host = st.host; card = x; transcript = t }

-- a call got the bytes that its end has, with their length; the buffer that holds them may be any
pub record HandedOn (x : End) (e : Event) : Type 0 where
  pub bytes : take (seen e).held.len (seen e).held.bytes ≡ x.bytes
  pub len : (seen e).held.len ≡ length x.bytes

-- a closing, a wrong MAC or wrong padding
abbrev pub closed_by : ℕ → Bool
closed_by n = eqb n (number BadMac) || eqb n (number BadPadding)

abbrev pub is_closing : Event → Bool
is_closing (wraps_command side c) = closed_by c.result
is_closing (unwraps_command side c) = closed_by c.result
is_closing (wraps_response side c) = closed_by c.result
is_closing (unwraps_response side c) = closed_by c.result
is_closing (closes side c) = true

-- the bytes of the session that a call leaves to the next one at its end
abbrev pub left_bytes : Event → Bytes
left_bytes e = let h = (seen e).held_after in take h.len h.bytes

module _ (K : Keys) where
  -- after a call: its end has the bytes that it left, and the transcript has what it was asked and gave
  unfoldable pub after : State → Event → State
  after st e =
      moved st (end e) (record { bytes = left_bytes e; closed = (at st (end e)).closed || is_closing e })
      (entered aes_ciphers K st.transcript (call e) (answer e))

  unfoldable pub ran : State → List Event → State
  ran st [] = st
  ran st (e ∷ es) = ran (after st e) es

  -- each call got the bytes that the call before it at its end left, with their length
  abbrev pub Trace : State → List Event → Type 0
  Trace st [] = Unit {0}
  Trace st (e ∷ es) = HandedOn (at st (end e)) e × Trace (after st e) es

  -- one of the calls was an acceptance under a right MAC that the sender cannot have meant
  abbrev pub Excepted : State → List Event → Type 0
  Excepted st [] = ⊥
  Excepted st (e ∷ es) = BreaksIn aes_ciphers K st.transcript (call e) (answer e) ⊎ Excepted (after st e) es

  -- no call is answered 16; and 1 only at an end that was closed
  abbrev pub Served : State → List Event → Type 0
  Served st [] = Unit {0}
  Served st (e ∷ es) =
      ((seen e).number ≡ number BadSession → ⊥)
      × ((seen e).number ≡ number SessionClosed → (at st (end e)).closed ≡ true)
      × Served (after st e) es

abbrev pub open_end : Bytes → End
open_end bytes = record { bytes = bytes; closed = false }

abbrev pub start : Bytes → Bytes → State
start h c = record { host = open_end h; card = open_end c; transcript = empty }

-- two openings that were not refused, a host's and a card's, with the same keys
pub record OpenedAlike (h : OpensHost) (c : OpensCard) : Type 0 where
  pub host : (open_host_left h).number ≡ 0
  pub card : (open_card_left c).number ≡ 0
  pub keys : (open_card_given c).keys ≡ (open_host_given h).keys

abbrev pub begins : OpensHost → OpensCard → State
begins h c = start (opened (open_host_left h)) (opened (open_card_left c))

abbrev pub Agreement : Type 0
Agreement =
    (h : OpensHost) (c : OpensCard) → OpenedAlike h c → (calls : List Event)
    → let K = (open_host_given h).keys in let st = begins h c in
    Trace K st calls
    → Served K st calls
    × ((n : ℕ) → Agrees aes_ciphers K (ran K st (take n calls)).transcript ⊎ Excepted K st (take n calls))

-- this exception is no wider than that of the definitions, which computed runs hold to what it should be
-- (message_protocol_examples)
abbrev pub ExceptionNoWider : Type 0
ExceptionNoWider =
    (h : OpensHost) (c : OpensCard) → OpenedAlike h c → (calls : List Event)
    → let K = (open_host_given h).keys in let st = begins h c in
    Trace K st calls → Excepted K st calls
    → ExceptedRun aes_ciphers K
    (startRun (opening Host (open_host_given h).suite K).next (opening Card (open_card_given c).suite K).next)
    (map call calls)
