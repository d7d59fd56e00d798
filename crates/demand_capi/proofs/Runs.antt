-- Demand 3 of the calls from C, from demand 3 of the definitions: a trace of session bytes is a run of sessions.
use mathlib.Core.Path.{◌≡◌, refl, sym, ap, subst, ◌∙◌}
use mathlib.Core.Bool.{false}
use mathlib.Core.Logic.{◌⊎◌, inl, inr}
use mathlib.Core.List.{List, [], ◌∷◌, map}
use Prim.Native.Nat.{ℕ, zero, suc}
use lib.ListN.{take}
use Rattle.octets.proofs.Tests.{both}
use Rattle.octets.specs.Bytes.{Bytes}
use Rattle.refusal.specs.declared.Refusal.{Refusal}
use Rattle.refusal.specs.declared.Refusal.TheVariants.{BadSession}
use Rattle.session_suite.specs.StoredKeys.{Keys}
use Rattle.std.specs.Prelude.{Ok}
use Rattle.session.specs.Opening.{Opened, opening}
use Rattle.session.specs.declared.Side.{Side}
use Rattle.session.specs.declared.Side.TheVariants.{Host, Card}
use Rattle.session.specs.declared.Session.{Session}
use Rattle.session_rules.specs.Valid.{valid, is_open, counts_as_open}
use Rattle.session_rules.proofs.KeepsTheRules.{opening_served}
use Rattle.session_bytes.specs.Saved.{encode}
use Rattle.session_bytes.proofs.SessionLengths.{opening_lengths}
use Rattle.message_ciphers.specs.Aes.{aes_ciphers}
use Rattle.message_answer.specs.Answer.{refused, Out}
use Rattle.message_protocol.specs.Transcript.{Call, side_of, Gives, does, Transcript, State, session_at, moved, entered, step, run, start}
use Rattle.message_protocol.specs.Agreement.{Agrees, BreaksIn, Excepted as ExceptedRun, CallBytes, AllBytes}
use Rattle.message_protocol.proofs.Theorems.{demand3}
use Rattle.capi_open.specs.Call.{leaves_opened}
use Rattle.demand_capi.specs.Calls.{OpensHost, OpensCard, open_host_given, open_host_left, open_card_given, open_card_left, opened, Event, wraps_command, unwraps_command, wraps_response, unwraps_response, closes, end, call, answer}
use Rattle.demand_capi.specs.Agreement.{End, State as Ends, at, moved as movedEnd, HandedOn, after, ran, Trace, Excepted, Served, OpenedAlike, begins, Agreement, ExceptionNoWider}
use Rattle.demand_capi.proofs.Named.{open_host_told, open_card_told}
use Rattle.demand_capi.proofs.OpenedBytes.{was_opened, left_by_opening}
use Rattle.demand_capi.proofs.Step.{Good, good_next, not_16, one_if_closed, same_answer}

abbrev calls : List Event → List Call
calls es = map call es

side_is : (e : Event) → side_of (call e) ≡ end e
side_is (wraps_command side c) = refl
side_is (unwraps_command side c) = refl
side_is (wraps_response side c) = refl
side_is (unwraps_response side c) = refl
side_is (closes side c) = refl

call_bytes : (e : Event) → CallBytes (call e)
call_bytes (wraps_command side c) = c.met.1.1
call_bytes (unwraps_command side c) = tt
call_bytes (wraps_response side c) = c.met.1.1
call_bytes (unwraps_response side c) = tt
call_bytes (closes side c) = tt

all_calls_bytes : (es : List Event) → AllBytes (calls es)
all_calls_bytes [] = tt
all_calls_bytes (e ∷ es) = (call_bytes e, all_calls_bytes es)

take_calls : (n : ℕ) (es : List Event) → take n (calls es) ≡ calls (take n es)
take_calls zero es = refl
take_calls (suc n) [] = refl
take_calls (suc n) (e ∷ es) = ap (λ (cs : List Call). call e ∷ cs) (take_calls n es)

-- the ends, and the sessions that their bytes are of
pub record Match (st : Ends) (ds : State) : Type 0 where
  pub host : Good st.host ds.host
  pub card : Good st.card ds.card
  pub log : st.transcript ≡ ds.transcript

match_at : (st : Ends) (ds : State) → Match st ds → (side : Side) → Good (at st side) (session_at ds side)
match_at st ds m Host = m.host
match_at st ds m Card = m.card

match_moved : (st : Ends) (ds : State) → Match st ds → (side : Side) (x : End) (s : Session) (t u : Transcript) → Good x s → t ≡ u
    → Match (movedEnd st side x t) (moved ds side s u)
unfolding moved
match_moved st ds m Host x s t u g e = record { host = g; card = m.card; log = e }
match_moved st ds m Card x s t u g e = record { host = m.host; card = g; log = e }

module _ (K : Keys) where
  module _ (st : Ends) (ds : State) (m : Match st ds) (e : Event) (handed : HandedOn (at st (end e)) e) where
    abbrev s : Session
    s = session_at ds (end e)

    abbrev out : Out (Gives (call e))
    out = does aes_ciphers s (call e)

    good : Good (at st (end e)) s
    good = match_at st ds m (end e)

    entered_same : entered aes_ciphers K st.transcript (call e) (answer e) ≡ entered aes_ciphers K ds.transcript (call e) out.answer
    unfolding entered
    entered_same = ap (λ (t : Transcript). entered aes_ciphers K t (call e) (answer e)) m.log ∙ go (same_answer e (at st (end e)) s good handed)
      where
        go : ((r : Refusal) × (out.answer ≡ refused r) × (answer e ≡ refused BadSession)) ⊎ (answer e ≡ out.answer)
            → entered aes_ciphers K ds.transcript (call e) (answer e) ≡ entered aes_ciphers K ds.transcript (call e) out.answer
        go (inl q) = ap (entered aes_ciphers K ds.transcript (call e)) q.2 ∙ sym (ap (entered aes_ciphers K ds.transcript (call e)) q.1)
        go (inr q) = ap (entered aes_ciphers K ds.transcript (call e)) q

    step_is : step aes_ciphers K ds (call e) ≡ moved ds (end e) out.next (entered aes_ciphers K ds.transcript (call e) out.answer)
    unfolding step
    step_is =
        ap (λ (side : Side).
        let o = does aes_ciphers (session_at ds side) (call e) in
        moved ds side o.next (entered aes_ciphers K ds.transcript (call e) o.answer)) (side_is e)

    match_step : Match (after K st e) (step aes_ciphers K ds (call e))
    unfolding after
    match_step =
        subst (Match (after K st e)) (sym step_is)
        (match_moved st ds m (end e) _ out.next _ _ (good_next e (at st (end e)) s good handed) entered_same)

    breaks_same : BreaksIn aes_ciphers K ds.transcript (call e) (does aes_ciphers (session_at ds (side_of (call e))) (call e)).answer
        → BreaksIn aes_ciphers K st.transcript (call e) (answer e)
    breaks_same b =
        let c : BreaksIn aes_ciphers K st.transcript (call e) out.answer =
        subst (λ (t : Transcript). BreaksIn aes_ciphers K t (call e) out.answer) (sym m.log)
        (subst (λ (side : Side). BreaksIn aes_ciphers K ds.transcript (call e) (does aes_ciphers (session_at ds side) (call e)).answer) (side_is e) b) in
        go (same_answer e (at st (end e)) s good handed) c
      where
        go : ((r : Refusal) × (out.answer ≡ refused r) × (answer e ≡ refused BadSession)) ⊎ (answer e ≡ out.answer)
            → BreaksIn aes_ciphers K st.transcript (call e) out.answer → BreaksIn aes_ciphers K st.transcript (call e) (answer e)
        go (inl q) c = absurd (subst (BreaksIn aes_ciphers K st.transcript (call e)) q.1 c)
        go (inr q) c = subst (BreaksIn aes_ciphers K st.transcript (call e)) (sym q) c

    breaks_back : BreaksIn aes_ciphers K st.transcript (call e) (answer e)
        → BreaksIn aes_ciphers K ds.transcript (call e) (does aes_ciphers (session_at ds (side_of (call e))) (call e)).answer
    breaks_back b =
        let c = go (same_answer e (at st (end e)) s good handed) b in
        subst (λ (side : Side). BreaksIn aes_ciphers K ds.transcript (call e) (does aes_ciphers (session_at ds side) (call e)).answer) (sym (side_is e))
        (subst (λ (t : Transcript). BreaksIn aes_ciphers K t (call e) out.answer) m.log c)
      where
        go : ((r : Refusal) × (out.answer ≡ refused r) × (answer e ≡ refused BadSession)) ⊎ (answer e ≡ out.answer)
            → BreaksIn aes_ciphers K st.transcript (call e) (answer e) → BreaksIn aes_ciphers K st.transcript (call e) out.answer
        go (inl q) c = absurd (subst (BreaksIn aes_ciphers K st.transcript (call e)) q.2 c)
        go (inr q) c = subst (BreaksIn aes_ciphers K st.transcript (call e)) q c

  serves : (st : Ends) (ds : State) → Match st ds → (es : List Event) → Trace K st es → Served K st es
  serves st ds m [] t = tt
  serves st ds m (e ∷ es) t =
      let g = match_at st ds m (end e) in (
        not_16 e (at st (end e)) (session_at ds (end e)) g t.0,
        one_if_closed e (at st (end e)) (session_at ds (end e)) g t.0,
        serves (after K st e) (step aes_ciphers K ds (call e)) (match_step st ds m e t.0) es t.1,
      )

  match_run : (st : Ends) (ds : State) → Match st ds → (es : List Event) → Trace K st es → Match (ran K st es) (run aes_ciphers K ds (calls es))
  unfolding ran run
  match_run st ds m [] t = m
  match_run st ds m (e ∷ es) t = match_run (after K st e) (step aes_ciphers K ds (call e)) (match_step st ds m e t.0) es t.1

  excepted_is : (st : Ends) (ds : State) → Match st ds → (es : List Event) → Trace K st es → ExceptedRun aes_ciphers K ds (calls es) → Excepted K st es
  excepted_is st ds m [] t x = x
  excepted_is st ds m (e ∷ es) t (inl b) = inl (breaks_same st ds m e t.0 b)
  excepted_is st ds m (e ∷ es) t (inr x) = inr (excepted_is (after K st e) (step aes_ciphers K ds (call e)) (match_step st ds m e t.0) es t.1 x)

  excepted_back : (st : Ends) (ds : State) → Match st ds → (es : List Event) → Trace K st es → Excepted K st es → ExceptedRun aes_ciphers K ds (calls es)
  excepted_back st ds m [] t x = x
  excepted_back st ds m (e ∷ es) t (inl b) = inl (breaks_back st ds m e t.0 b)
  excepted_back st ds m (e ∷ es) t (inr x) =
      inr (excepted_back (after K st e) (step aes_ciphers K ds (call e)) (match_step st ds m e t.0) es t.1 x)

  take_trace : (n : ℕ) (st : Ends) (es : List Event) → Trace K st es → Trace K st (take n es)
  take_trace zero st es t = tt
  take_trace (suc n) st [] t = tt
  take_trace (suc n) st (e ∷ es) t = (t.0, take_trace n (after K st e) es t.1)

  of_run : (st : Ends) (ds : State) → Match st ds → (es : List Event) → Trace K st es
      → Agrees aes_ciphers K (run aes_ciphers K ds (calls es)).transcript ⊎ ExceptedRun aes_ciphers K ds (calls es)
      → Agrees aes_ciphers K (ran K st es).transcript ⊎ Excepted K st es
  of_run st ds m es t (inl a) = inl (subst (Agrees aes_ciphers K) (sym (match_run st ds m es t).log) a)
  of_run st ds m es t (inr x) = inr (excepted_is st ds m es t x)

-- ---- how it begins

opened_good : (side : Side) (suite : ℕ) (K : Keys) (b : Bytes) → (opening side suite K).answer ≡ Ok tt → b ≡ encode (opening side suite K).next
    → Good (record { bytes = b; closed = false }) (opening side suite K).next
unfolding counts_as_open
opened_good side suite K b done e =
    let s = (opening side suite K).next in
    let o = opening_served side suite K done in
    record { bytes = e; rules = (both (is_open s.phase) (valid s) o).1; lengths = opening_lengths side suite K done; open_is = λ f. o }

module _ (h : OpensHost) (c : OpensCard) (alike : OpenedAlike h c) where
  abbrev K : Keys
  K = (open_host_given h).keys

  abbrev host_suite : ℕ
  host_suite = (open_host_given h).suite

  abbrev card_suite : ℕ
  card_suite = (open_card_given c).suite

  abbrev host : Opened
  host = opening Host host_suite K

  abbrev card : Opened
  card = opening Card card_suite K

  pub host_done : host.answer ≡ Ok tt
  host_done = was_opened host (open_host_given h).session (open_host_left h) (open_host_told h) alike.host

  card_told : open_card_left c ≡ leaves_opened (open_card_given c).session card
  card_told = open_card_told c ∙ ap (λ (k : Keys). leaves_opened (open_card_given c).session (opening Card card_suite k)) alike.keys

  pub card_done : card.answer ≡ Ok tt
  card_done = was_opened card (open_card_given c).session (open_card_left c) card_told alike.card

  pub host_left : opened (open_host_left h) ≡ encode host.next
  host_left =
      left_by_opening host (open_host_given h).session (open_host_left h) (open_host_told h) alike.host (opening_lengths Host host_suite K host_done)

  pub card_left : opened (open_card_left c) ≡ encode card.next
  card_left =
      left_by_opening card (open_card_given c).session (open_card_left c) card_told alike.card (opening_lengths Card card_suite K card_done)

  abbrev starts : State
  starts = start host.next card.next

  match_start : Match (begins h c) starts
  match_start =
      record {
        host = opened_good Host host_suite K (opened (open_host_left h)) host_done host_left;
        card = opened_good Card card_suite K (opened (open_card_left c)) card_done card_left;
        log = refl;
      }

  agrees : (es : List Event) → Trace K (begins h c) es → (n : ℕ)
      → Agrees aes_ciphers K (ran K (begins h c) (take n es)).transcript ⊎ Excepted K (begins h c) (take n es)
  agrees es t n =
      of_run K (begins h c) starts match_start (take n es) (take_trace K n _ es t)
      (subst (λ (cs : List Call). Agrees aes_ciphers K (run aes_ciphers K starts cs).transcript ⊎ ExceptedRun aes_ciphers K starts cs) (take_calls n es)
      (demand3 host_suite card_suite K h.met.1 host_done card_done (calls es) (all_calls_bytes es) n))

pub agreement : Agreement
agreement h c alike es t =
    (serves (open_host_given h).keys _ (starts h c alike) (match_start h c alike) es t, agrees h c alike es t)

pub exception_no_wider : ExceptionNoWider
exception_no_wider h c alike es t x = excepted_back (open_host_given h).keys _ (starts h c alike) (match_start h c alike) es t x
