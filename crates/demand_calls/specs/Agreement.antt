-- Demand 3, of the functions: "Open a host and a card with the same three keys. Take every list of these calls, refused ones included: the host
-- wraps, the card unwraps, the card wraps, the host unwraps, either end is closed. Each call gets the session that the call before it at its
-- end, at first the opening, left. Whatever bytes the line hands them, after every call, with w commands wrapped, a accepted, s responses
-- wrapped and r accepted, r ≤ s ≤ a ≤ w ≤ r + 1. Each accepted command gave the data, header and Le (or its absence), and each accepted
-- response the data and status, that the other end wrapped at the same place in the order. This may cease only where that call or an earlier
-- one was an acceptance whose '8E' holds the first 8 bytes of its MAC input's whole MAC, and either that input is one that the sender had not
-- yet MACed in that direction, or two of the sender's whole chaining values so far in that direction, the zero start included, are equal."
-- Assumes nothing.
use Rattle.std.specs.Prelude.{◌≡◌, ◌⊎◌, List, [], ◌∷◌, map, ℕ, take, Ok}
use Rattle.session_suite.specs.StoredKeys.{Keys}
use Rattle.message_ciphers.specs.Aes.{aes_ciphers}
use Rattle.message_protocol.specs.Transcript.{State, session_at, moved, entered, start}
use Rattle.message_protocol.specs.Agreement.{Agrees, BreaksIn, Excepted as ExceptedRun}
use Rattle.demand_calls.specs.Calls.{OpensHost, OpensCard, host_keys, card_keys, Event, end, session, call, next, answer}

module _ (K : Keys) where
  -- after a call: its end has the session that it left, and the transcript has what it was asked and gave
  unfoldable pub after : State → Event → State
  after st e = moved st (end e) (next e) (entered aes_ciphers K st.transcript (call e) (answer e))

  unfoldable pub ran : State → List Event → State
  ran st [] = st
  ran st (e ∷ es) = ran (after st e) es

  -- each call got the session that the call before it at its end left
  abbrev pub Trace : State → List Event → Type 0
  Trace st [] = Unit {0}
  Trace st (e ∷ es) = (session e ≡ session_at st (end e)) × Trace (after st e) es

  -- one of the calls was an acceptance under a right MAC that the sender cannot have meant
  abbrev pub Excepted : State → List Event → Type 0
  Excepted st [] = ⊥
  Excepted st (e ∷ es) = BreaksIn aes_ciphers K st.transcript (call e) (answer e) ⊎ Excepted (after st e) es

-- this exception is no wider than that of the definitions, which computed runs hold to what it should be (message_protocol_examples)
abbrev pub ExceptionNoWider : Type 0
ExceptionNoWider =
    (K : Keys) (st : State) (calls : List Event) → Trace K st calls → Excepted K st calls → ExceptedRun aes_ciphers K st (map call calls)

abbrev pub Agreement : Type 0
Agreement =
    (h : OpensHost) (c : OpensCard) → h.result.answer ≡ Ok tt → c.result.answer ≡ Ok tt → card_keys c ≡ host_keys h
    → let K = host_keys h in let st = start h.result.next c.result.next in
    (calls : List Event) → Trace K st calls → (n : ℕ)
    → Agrees aes_ciphers K (ran K st (take n calls)).transcript ⊎ Excepted K st (take n calls)
