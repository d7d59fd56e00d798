-- Demand 1 (rule 10.1), of the functions: every refusal has a number of its call's order, no byte of the caller's buffer changes, and the session stays,
-- but is closed, field by field, at 9 and 10.
use Rattle.std.specs.Prelude.{◌≡◌, ◌⊎◌, Err}
use mathlib.Core.List.{[], ◌∷◌, Memᴰ}
use Rattle.refusal.specs.Refusal.{number}
use Rattle.refusal.specs.declared.Refusal.{Refusal}
use Rattle.session.specs.Session.{no_session}
use Rattle.session.specs.declared.Side.TheVariants.{Host, Card}
use Rattle.message_answer.specs.Answer.{refused, buffer}
use Rattle.message_protocol.specs.RefusalKeeps.{order, writes, IsClosed}
use Rattle.capi_values.specs.Values.{refusal_values}
use Rattle.demand_calls.specs.Calls.{OpensHost, OpensCard, Event, session, buffer_before, buffer_after, call, next, values, answer}

pub record Keeps (e : Event) (r : Refusal) : Type 0 where
  pub in_order : Memᴰ (number r) (order (call e))
  pub told : values e ≡ refusal_values r
  pub output : buffer_after e ≡ buffer_before e
  pub closed : (number r ≡ 9) ⊎ (number r ≡ 10) → IsClosed (session e) (next e)
  pub stays : ((number r ≡ 9) ⊎ (number r ≡ 10) → ⊥) → next e ≡ session e

-- every call, with every session value and every buffer
abbrev pub RefusalKeeps : Type 0
RefusalKeeps = (e : Event) (r : Refusal) → answer e ≡ refused r → Keeps e r

-- rule 2.4: bytes after those that a call writes stay
abbrev pub RestKeeps : Type 0
RestKeeps = (e : Event) → buffer_after e ≡ buffer (writes (call e)) (buffer_before e) (answer e)

-- openings lend no output; a refused one gives no session
abbrev pub HostOpeningRefuses : Type 0
HostOpeningRefuses =
    (o : OpensHost) (r : Refusal) → o.result.answer ≡ Err r → Memᴰ (number r) (11 ∷ 12 ∷ []) × (o.result.next ≡ no_session Host)

abbrev pub CardOpeningRefuses : Type 0
CardOpeningRefuses =
    (o : OpensCard) (r : Refusal) → o.result.answer ≡ Err r → Memᴰ (number r) (11 ∷ 12 ∷ []) × (o.result.next ≡ no_session Card)
