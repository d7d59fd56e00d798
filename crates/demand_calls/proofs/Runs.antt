-- Demand 3 of the functions, from demand 3 of the definitions: a trace is a run of its calls.
-- Assumes nothing.
use mathlib.Core.Path.{◌≡◌, refl, sym, ap, subst, ◌∙◌}
use mathlib.Core.Logic.{◌⊎◌, inl, inr}
use mathlib.Core.List.{List, [], ◌∷◌, map}
use Prim.Native.Nat.{ℕ, zero, suc}
use lib.ListN.{take}
use Rattle.session_suite.specs.StoredKeys.{Keys}
use Rattle.session.specs.Opening.{Opened, opening}
use Rattle.session.specs.declared.Side.{Side}
use Rattle.session.specs.declared.Side.TheVariants.{Host, Card}
use Rattle.session.specs.declared.Session.{Session}
use Rattle.message_ciphers.specs.Aes.{aes_ciphers}
use Rattle.message_answer.specs.Answer.{Out}
use Rattle.message_protocol.specs.Transcript.{Call, side_of, Gives, does, State, session_at, moved, entered, step, run, start}
use Rattle.message_protocol.specs.Agreement.{Agrees, BreaksIn, Excepted as ExceptedRun, CallBytes, AllBytes}
use Rattle.message_protocol.proofs.Theorems.{demand3}
use Rattle.demand_calls.specs.Calls.{host_keys, Event, wraps_command, unwraps_command, wraps_response, unwraps_response, closes, end, session, call, next, answer}
use Rattle.demand_calls.specs.Agreement.{after, ran, Trace, Excepted, Agreement}
use Rattle.demand_calls.proofs.Told.{outcome, told}

abbrev calls : List Event → List Call
calls es = map call es

side_is : (e : Event) → side_of (call e) ≡ end e
side_is (wraps_command side c) = refl
side_is (unwraps_command side c) = refl
side_is (wraps_response side c) = refl
side_is (unwraps_response side c) = refl
side_is (closes side c) = refl

call_bytes : (e : Event) → CallBytes (call e)
call_bytes (wraps_command side c) = c.met.1.1.0
call_bytes (unwraps_command side c) = tt
call_bytes (wraps_response side c) = c.met.1.1.0
call_bytes (unwraps_response side c) = tt
call_bytes (closes side c) = tt

all_calls_bytes : (es : List Event) → AllBytes (calls es)
all_calls_bytes [] = tt
all_calls_bytes (e ∷ es) = (call_bytes e, all_calls_bytes es)

take_calls : (n : ℕ) (es : List Event) → take n (calls es) ≡ calls (take n es)
take_calls zero es = refl
take_calls (suc n) [] = refl
take_calls (suc n) (e ∷ es) = ap (λ (cs : List Call). call e ∷ cs) (take_calls n es)

module _ (K : Keys) where
  take_trace : (n : ℕ) (st : State) (es : List Event) → Trace K st es → Trace K st (take n es)
  take_trace zero st es t = tt
  take_trace (suc n) st [] t = tt
  take_trace (suc n) st (e ∷ es) t = (t.0, take_trace n (after K st e) es t.1)

  -- what the definition gives at the session that the end has
  given : (st : State) (e : Event) → session e ≡ session_at st (end e) → does aes_ciphers (session_at st (side_of (call e))) (call e) ≡ outcome e
  given st e h =
      ap (λ (side : Side). does aes_ciphers (session_at st side) (call e)) (side_is e)
      ∙ ap (λ (s : Session). does aes_ciphers s (call e)) (sym h)
      ∙ told e

  step_is : (st : State) (e : Event) → session e ≡ session_at st (end e) → step aes_ciphers K st (call e) ≡ after K st e
  unfolding step after
  step_is st e h =
      ap (λ (o : Out (Gives (call e))). moved st (side_of (call e)) o.next (entered aes_ciphers K st.transcript (call e) o.answer)) (given st e h)
      ∙ ap (λ (side : Side). moved st side (next e) (entered aes_ciphers K st.transcript (call e) (answer e))) (side_is e)

  run_is : (st : State) (es : List Event) → Trace K st es → run aes_ciphers K st (calls es) ≡ ran K st es
  unfolding run ran
  run_is st [] t = refl
  run_is st (e ∷ es) t =
      ap (λ (s : State). run aes_ciphers K s (calls es)) (step_is st e t.0) ∙ run_is (after K st e) es t.1

  excepted_is : (st : State) (es : List Event) → Trace K st es → ExceptedRun aes_ciphers K st (calls es) → Excepted K st es
  excepted_is st [] t x = x
  excepted_is st (e ∷ es) t (inl b) =
      inl (subst (λ (o : Out (Gives (call e))). BreaksIn aes_ciphers K st.transcript (call e) o.answer) (given st e t.0) b)
  excepted_is st (e ∷ es) t (inr x) =
      inr (excepted_is (after K st e) es t.1 (subst (λ (s : State). ExceptedRun aes_ciphers K s (calls es)) (step_is st e t.0) x))

  pub excepted_back : (st : State) (es : List Event) → Trace K st es → Excepted K st es → ExceptedRun aes_ciphers K st (calls es)
  excepted_back st [] t x = x
  excepted_back st (e ∷ es) t (inl b) =
      inl (subst (λ (o : Out (Gives (call e))). BreaksIn aes_ciphers K st.transcript (call e) o.answer) (sym (given st e t.0)) b)
  excepted_back st (e ∷ es) t (inr x) =
      inr (subst (λ (s : State). ExceptedRun aes_ciphers K s (calls es)) (sym (step_is st e t.0)) (excepted_back (after K st e) es t.1 x))

  of_run : (st : State) (es : List Event) → Trace K st es
      → Agrees aes_ciphers K (run aes_ciphers K st (calls es)).transcript ⊎ ExceptedRun aes_ciphers K st (calls es)
      → Agrees aes_ciphers K (ran K st es).transcript ⊎ Excepted K st es
  of_run st es t (inl a) = inl (subst (λ (s : State). Agrees aes_ciphers K s.transcript) (run_is st es t) a)
  of_run st es t (inr x) = inr (excepted_is st es t x)

-- the runs of the definitions, from the sessions that were opened
from_openings : (K : Keys) (x y : Opened) (cs : List Call) → Type 0
from_openings K x y cs =
    let st = start x.next y.next in
    Agrees aes_ciphers K (run aes_ciphers K st cs).transcript ⊎ ExceptedRun aes_ciphers K st cs

pub agreement : Agreement
unfolding from_openings
agreement h c hostOpened cardOpened same events t n =
    let K = host_keys h in
    let host : opening Host h.args.0 K ≡ h.result = sym h.met.0 in
    let card : opening Card c.args.0 K ≡ c.result = sym (c.met.0 ∙ ap (opening Card c.args.0) same) in
    let d : from_openings K (opening Host h.args.0 K) (opening Card c.args.0 K) (take n (calls events)) =
    demand3 h.args.0 c.args.0 K h.met.1 (ap (λ (o : Opened). o.answer) host ∙ hostOpened) (ap (λ (o : Opened). o.answer) card ∙ cardOpened)
    (calls events) (all_calls_bytes events) n in
    let d1 : from_openings K h.result (opening Card c.args.0 K) (take n (calls events)) =
    subst (λ (o : Opened). from_openings K o (opening Card c.args.0 K) (take n (calls events))) host d in
    let d2 : from_openings K h.result c.result (take n (calls events)) =
    subst (λ (o : Opened). from_openings K h.result o (take n (calls events))) card d1 in
    of_run K (start h.result.next c.result.next) (take n events) (take_trace K n _ events t)
    (subst (from_openings K h.result c.result) (take_calls n events) d2)
