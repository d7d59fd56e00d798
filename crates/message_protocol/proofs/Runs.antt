-- Every call of a run keeps the invariant, or breaks the MAC; so demand 3 holds of every run.
use mathlib.Core.Path.{◌≡◌, refl, sym, ◌∙◌}
use mathlib.Core.Logic.{◌⊎◌, inl, inr}
use mathlib.Core.Bool.{Bool, true, false}
use mathlib.Core.List.{List, [], ◌∷◌}
use Prim.Native.Nat.{ℕ, zero, suc, ◌-◌}
use native.Mathlib.Omega.{arith}
use lib.ListN.{length, take}
use lib.Seq.{take_at}
use Rattle.octets.specs.Bytes.{zeros}
use Rattle.refusal.specs.declared.Refusal.{Refusal}
use Rattle.session_suite.specs.Suites.{key_length, suite_of}
use Rattle.session.specs.Session.{fresh, closed}
use Rattle.session_suite.specs.StoredKeys.{stored, KeysOfBytes, Keys, keys_fit}
use Rattle.session.specs.Opening.{open_suite, opening}
use Rattle.session_suite.proofs.StoredKeys.{key_size_lem, fitting}
use Rattle.session.specs.declared.Side.{Side}
use Rattle.session.specs.declared.Side.TheVariants.{Host, Card}
use Rattle.session.specs.declared.Phase.TheVariants.{Ready, Pending}
use Rattle.session_suite.specs.declared.Suite.{Suite}
use Rattle.std.specs.Prelude.{Option, Some, None, Result, Ok, Err}
use Rattle.session.specs.declared.Session.{Session}
use Rattle.message_ciphers.specs.Ciphers.{Ciphers, Laws}
use Rattle.message_answer.specs.Answer.{Out, after_refusal}
use Rattle.message_protocol.specs.Transcript.{Call, wrap_command, unwrap_command, wrap_response, unwrap_response, close, side_of, Gives, does, Transcript, commands, responses, chaining_values, chaining, noted, entered, State, session_at, moved, step, run, start}
use Rattle.message_protocol.specs.Agreement.{Agrees, BreaksIn, Excepted, CallBytes, AllBytes, Agreement}
use Rattle.message_exchange.proofs.Kept.{kept_empty, kept_agrees}
use Rattle.message_protocol.proofs.CallCases.{turn_is, host_wraps_lem, card_wraps_lem, card_unwraps_lem, host_unwraps_lem}
use Rattle.message_answer.proofs.Refusals.{after_refusal_lem}
use Rattle.message_protocol.proofs.Invariant.{AreKeys, Live, Inv, ready_pending, host_card, closed_shut, command_wrapped_lem, response_wrapped_lem, command_accepted_lem, response_accepted_lem}

module _ (C : Ciphers) (K : Keys) where
  abbrev Invariant : State → Type 0
  Invariant st = Inv C K st.host st.card st.transcript

  host_closed : (h c : Session) (t : Transcript) → Inv C K h c t → Inv C K (closed h) c t
  host_closed h c t v = record { host_is = λ e. closed_shut h e; card_is = v.card_is; keeps = v.keeps }

  card_closed : (h c : Session) (t : Transcript) → Inv C K h c t → Inv C K h (closed c) t
  card_closed h c t v = record { host_is = v.host_is; card_is = λ e. closed_shut c e; keeps = v.keeps }

  host_refused : (h c : Session) (t : Transcript) (r : Refusal) → Inv C K h c t → Inv C K (after_refusal h r) c t
  host_refused h c t r v = after_refusal_lem closed (λ (s : Session). Inv C K s c t) h r v (host_closed h c t v)

  card_refused : (h c : Session) (t : Transcript) (r : Refusal) → Inv C K h c t → Inv C K h (after_refusal c r) t
  card_refused h c t r v = after_refusal_lem closed (λ (s : Session). Inv C K h s t) c r v (card_closed h c t v)

  -- what a call leaves
  abbrev Kept : State → (c : Call) → Out (Gives c) → Type 0
  Kept st c out =
      Invariant (moved st (side_of c) out.next (entered C K st.transcript c out.answer)) ⊎ BreaksIn C K st.transcript c out.answer

  keep : Laws C → AreKeys K → (st : State) (c : Call) → CallBytes c → Invariant st → Kept st c (does C (session_at st (side_of c)) c)
  unfolding does moved entered noted
  keep L G st (wrap_command Host m room) y v =
      host_wraps_lem C (Kept st (wrap_command Host m room)) st.host m room (λ r. inl (host_refused st.host st.card st.transcript r v))
      (λ may. inl (command_wrapped_lem C K st.host st.card st.transcript m room v may y))
  keep L G st (wrap_command Card m room) y v =
      host_wraps_lem C (Kept st (wrap_command Card m room)) st.card m room (λ r. inl (card_refused st.host st.card st.transcript r v))
      (λ may. host_card (sym (turn_is Host Ready st.card may.turn).0 ∙ (v.card_is may.opened).side_is))
  keep L G st (unwrap_command Host header field room) y v =
      card_unwraps_lem C (Kept st (unwrap_command Host header field room)) st.host header field room
      (λ r. inl (host_refused st.host st.card st.transcript r v))
      (λ o d read. host_card (sym (v.host_is read.may.opened).side_is ∙ (turn_is Card Ready st.host read.may.turn).0))
  keep L G st (unwrap_command Card header field room) y v =
      card_unwraps_lem C (Kept st (unwrap_command Card header field room)) st.card header field room
      (λ r. inl (card_refused st.host st.card st.transcript r v))
      (λ o d read. command_accepted_lem C K L G st.host st.card st.transcript header field room o d v read)
  keep L G st (wrap_response Host m room) y v =
      card_wraps_lem C (Kept st (wrap_response Host m room)) st.host m room (λ r. inl (host_refused st.host st.card st.transcript r v))
      (λ may. host_card (sym (v.host_is may.opened).side_is ∙ (turn_is Card Pending st.host may.turn).0))
  keep L G st (wrap_response Card m room) y v =
      card_wraps_lem C (Kept st (wrap_response Card m room)) st.card m room (λ r. inl (card_refused st.host st.card st.transcript r v))
      (λ may. inl (response_wrapped_lem C K st.host st.card st.transcript m room v may y))
  keep L G st (unwrap_response Host sw field room) y v =
      host_unwraps_lem C (Kept st (unwrap_response Host sw field room)) st.host sw field room
      (λ r. inl (host_refused st.host st.card st.transcript r v))
      (λ o d read. response_accepted_lem C K L G st.host st.card st.transcript sw field room o d v read)
  keep L G st (unwrap_response Card sw field room) y v =
      host_unwraps_lem C (Kept st (unwrap_response Card sw field room)) st.card sw field room
      (λ r. inl (card_refused st.host st.card st.transcript r v))
      (λ o d read. host_card (sym (turn_is Host Pending st.card read.may.turn).0 ∙ (v.card_is read.may.opened).side_is))
  keep L G st (close Host) y v = inl (host_closed st.host st.card st.transcript v)
  keep L G st (close Card) y v = inl (card_closed st.host st.card st.transcript v)

  agrees : (st : State) → Invariant st → Agrees C K st.transcript
  agrees st v = kept_agrees (commands C K) (responses C K) st.transcript v.keeps

  runs : Laws C → AreKeys K → (calls : List Call) (st : State) → AllBytes calls → Invariant st
      → Agrees C K (run C K st calls).transcript ⊎ Excepted C K st calls
  unfolding run step
  runs L G [] st y v = inl (agrees st v)
  runs L G (c ∷ calls) st y v = go (runs L G calls (step C K st c) y.1) (keep L G st c y.0 v)
    where
      go : (Invariant (step C K st c) → Agrees C K (run C K (step C K st c) calls).transcript ⊎ Excepted C K (step C K st c) calls)
          → Kept st c (does C (session_at st (side_of c)) c)
          → Agrees C K (run C K (step C K st c) calls).transcript ⊎ Excepted C K st (c ∷ calls)
      go rest (inl w) = elim (rest w) [ inl x ↦ inl x | inr x ↦ inr (inr x) ]
      go rest (inr x) = inr (inl x)

-- ---- openings

-- an opening that was not refused: a known suite, keys that fit, and a fresh session
pub record Fresh (side : Side) (n : ℕ) (K : Keys) : Type 0 where
  pub suite : Suite
  pub fits : keys_fit (key_length suite) K ≡ true
  pub known : suite_of n ≡ Some suite
  pub is : (opening side n K).next ≡ fresh side suite (stored K.enc) (stored K.mac) (stored K.rmac)

not_done : {r : Refusal} {u : Unit {0}} {P : Type 0} → ◌≡◌ {A = Result (Unit {0}) Refusal} (Err r) (Ok u) → P
not_done e = let z : ◌≡◌ {A = ℕ} 0 1 = cc in let o : ⊥ = omega arith in absurd o

pub opened : (side : Side) (n : ℕ) (K : Keys) → (opening side n K).answer ≡ Ok tt → Fresh side n K
unfolding opening open_suite
opened side n K e = go (suite_of n) refl e
  where
    by : (suite : Suite) (t : Bool) → keys_fit (key_length suite) K ≡ t → suite_of n ≡ Some suite → (open_suite side (Some suite) K).answer ≡ Ok tt → Fresh side n K
    by suite true f q e = record { suite = suite; fits = f; known = q; is = rw (q, f) }
    by suite false f q e = not_done (rw f at e)

    go : (s : Option Suite) → suite_of n ≡ s → (open_suite side s K).answer ≡ Ok tt → Fresh side n K
    go (Some suite) q e = by suite (keys_fit (key_length suite) K) refl q e
    go None q e = not_done e

pub are_keys : (suite : Suite) (K : Keys) → KeysOfBytes K → keys_fit (key_length suite) K ≡ true → AreKeys K
are_keys suite K y e =
    let s = fitting (key_length suite) K e in
    record {
      enc = record { bytes = y.enc; size = key_size_lem suite K.enc s.enc };
      mac = record { bytes = y.mac; size = key_size_lem suite K.mac s.mac };
      rmac = record { bytes = y.rmac; size = key_size_lem suite K.rmac s.rmac };
    }

pub fresh_live : (C : Ciphers) (K : Keys) (side : Side) (suite : Suite) → keys_fit (key_length suite) K ≡ true
    → Live C K side (fresh side suite (stored K.enc) (stored K.mac) (stored K.rmac)) [] []
unfolding chaining chaining_values
fresh_live C K side suite e =
    let s = fitting (key_length suite) K e in
    record {
      side_is = refl;
      enc_is = take_at K.enc (zeros (32 - length K.enc)) (key_length suite) s.enc;
      mac_is = take_at K.mac (zeros (32 - length K.mac)) (key_length suite) s.mac;
      rmac_is = take_at K.rmac (zeros (32 - length K.rmac)) (key_length suite) s.rmac;
      count_is = refl;
      command_is = refl;
      response_is = refl;
      ready_is = λ p. refl;
      pending_is = λ p. ready_pending p;
    }

begins : (C : Ciphers) (K : Keys) (host_suite card_suite : Suite) → keys_fit (key_length host_suite) K ≡ true → keys_fit (key_length card_suite) K ≡ true
    → Invariant C K (start (fresh Host host_suite (stored K.enc) (stored K.mac) (stored K.rmac))
    (fresh Card card_suite (stored K.enc) (stored K.mac) (stored K.rmac)))
begins C K host_suite card_suite h c =
    record {
      host_is = λ e. fresh_live C K Host host_suite h;
      card_is = λ e. fresh_live C K Card card_suite c;
      keeps = kept_empty (commands C K) (responses C K);
    }

all_take : (n : ℕ) (calls : List Call) → AllBytes calls → AllBytes (take n calls)
all_take zero calls y = tt
all_take (suc n) [] y = tt
all_take (suc n) (c ∷ calls) y = (y.0, all_take n calls y.1)

pub agreement : (C : Ciphers) → Laws C → Agreement C
agreement C L host_suite card_suite K k oh oc calls y n =
    let h : Fresh Host host_suite K = opened Host host_suite K oh in
    let c : Fresh Card card_suite K = opened Card card_suite K oc in
    runs C K L (are_keys h.suite K k h.fits) (take n calls)
    (start (opening Host host_suite K).next (opening Card card_suite K).next) (all_take n calls y)
    (rw (h.is, c.is) (begins C K h.suite c.suite h.fits c.fits))
