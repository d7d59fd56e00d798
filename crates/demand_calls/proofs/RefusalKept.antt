-- Demand 1 of the functions, from demand 1 of the definitions.
-- Assumes nothing.
use mathlib.Core.Path.{◌≡◌, refl, sym, ap, subst, ◌∙◌}
use mathlib.Core.Bool.{Bool, true, false}
use mathlib.Core.List.{[], ◌∷◌, Memᴰ}
use Prim.Native.Nat.{ℕ}
use native.Mathlib.Omega.{arith}
use Rattle.octets.specs.Bytes.{Bytes}
use Rattle.std.specs.Prelude.{if◌then◌else◌, Option, Some, None, Result, Ok, Err}
use Rattle.refusal.specs.Refusal.{number}
use Rattle.refusal.specs.declared.Refusal.{Refusal}
use Rattle.refusal.specs.declared.Refusal.TheVariants.{UnknownSuite, BadKeyLength}
use Rattle.session_suite.specs.Suites.{key_length, suite_of}
use Rattle.session.specs.Session.{fresh, no_session}
use Rattle.session_suite.specs.StoredKeys.{stored, Keys, keys_fit}
use Rattle.session.specs.Opening.{Opened, not_opened, open_suite, opening}
use Rattle.session.specs.declared.Side.{Side}
use Rattle.session.specs.declared.Side.TheVariants.{Host, Card}
use Rattle.session_suite.specs.declared.Suite.{Suite}
use Rattle.session.specs.declared.Session.{Session}
use Rattle.message_ciphers.specs.Aes.{aes_ciphers}
use Rattle.message_answer.specs.Answer.{refused, gave, Out, buffer}
use Rattle.message_protocol.specs.RefusalKeeps.{writes, IsClosed}
use Rattle.message_protocol.specs.Transcript.{Gives, does}
use Rattle.message_protocol.proofs.Theorems.{demand1}
use Rattle.capi_values.specs.Values.{refusal_values, wrap_values, command_values, response_values}
use Rattle.message_result.specs.declared.AcceptedCommand.{AcceptedCommand}
use Rattle.message_result.specs.declared.AcceptedResponse.{AcceptedResponse}
use Rattle.demand_calls.specs.Calls.{host_keys, card_keys, Event, wraps_command, unwraps_command, wraps_response, unwraps_response, closes, session, buffer_before, call, next, values, wrap_gave, command_gave, response_gave, answer}
use Rattle.demand_calls.specs.RefusalKeeps.{RefusalKeeps, RestKeeps, HostOpeningRefuses, CardOpeningRefuses}
use Rattle.demand_calls.proofs.Told.{told, output_told}

-- the number and values of a refusal
not_given_lem : {A : Type 0} {a : A} {r : Refusal} {P : Type 0} → gave a ≡ refused r → P
not_given_lem e = let z : ◌≡◌ {A = ℕ} 0 1 = cc in let o : ⊥ = omega arith in absurd o

wrap_values_lem : (a : Result ℕ Refusal) (out : Bytes) (r : Refusal) → wrap_gave a out ≡ refused r → wrap_values a ≡ refusal_values r
wrap_values_lem (Ok n) out r e = not_given_lem e
wrap_values_lem (Err q) out r e = let s : q ≡ r = cc in ap refusal_values s

command_values_lem : (a : Result AcceptedCommand Refusal) (out : Bytes) (r : Refusal) → command_gave a out ≡ refused r → command_values a ≡ refusal_values r
command_values_lem (Ok g) out r e = not_given_lem e
command_values_lem (Err q) out r e = let s : q ≡ r = cc in ap refusal_values s

response_values_lem : (a : Result AcceptedResponse Refusal) (out : Bytes) (r : Refusal) → response_gave a out ≡ refused r → response_values a ≡ refusal_values r
response_values_lem (Ok g) out r e = not_given_lem e
response_values_lem (Err q) out r e = let s : q ≡ r = cc in ap refusal_values s

values_told : (e : Event) (r : Refusal) → answer e ≡ refused r → values e ≡ refusal_values r
values_told (wraps_command side c) r e = wrap_values_lem c.result.answer _ r e
values_told (unwraps_command side c) r e = command_values_lem c.result.answer _ r e
values_told (wraps_response side c) r e = wrap_values_lem c.result.answer _ r e
values_told (unwraps_response side c) r e = response_values_lem c.result.answer _ r e
values_told (closes side c) r e = not_given_lem e

pub refusal_keeps : RefusalKeeps
refusal_keeps e r h =
    let left : next e ≡ (does aes_ciphers (session e) (call e)).next = ap (λ (o : Out (Gives (call e))). o.next) (sym (told e)) in
    let k = demand1 (session e) (call e) r (buffer_before e) (ap (λ (o : Out (Gives (call e))). o.answer) (told e) ∙ h) in
    record {
      in_order = k.in_order;
      told = values_told e r h;
      output = output_told e ∙ k.output;
      closed = λ c. subst (λ (s : Session). IsClosed (session e) s) (sym left) (k.closes c);
      stays = λ c. left ∙ k.stays c;
    }

pub rest_keeps : RestKeeps
rest_keeps e = output_told e ∙ ap (λ (o : Out (Gives (call e))). buffer (writes (call e)) (buffer_before e) o.answer) (told e)

-- ---- openings

no_refusal : {r : Refusal} {P : Type 0} → ◌≡◌ {A = Result (Unit {0}) Refusal} (Ok tt) (Err r) → P
no_refusal e = let z : ◌≡◌ {A = ℕ} 0 1 = cc in let o : ⊥ = omega arith in absurd o

same_refusal : {q r : Refusal} → ◌≡◌ {A = Result (Unit {0}) Refusal} (Err q) (Err r) → q ≡ r
same_refusal e = cc

-- the refusals of an opening
abbrev Refuses : Side → Opened → Type 0
Refuses side o = (r : Refusal) → o.answer ≡ Err r → Memᴰ (number r) (11 ∷ 12 ∷ []) × (o.next ≡ no_session side)

not_opened_lem : (side : Side) (q : Refusal) → Memᴰ (number q) (11 ∷ 12 ∷ []) → Refuses side (not_opened side q)
not_opened_lem side q m r e = (subst (λ (x : Refusal). Memᴰ (number x) (11 ∷ 12 ∷ [])) (same_refusal e) m, refl)

suite_refuses : (side : Side) (n : Option Suite) (k : Keys) → Refuses side (open_suite side n k)
unfolding open_suite
suite_refuses side (Some suite) k = go (keys_fit (key_length suite) k)
  where
    go : (fit : Bool) → Refuses side (if fit then record { answer = Ok tt; next = fresh side suite (stored k.enc) (stored k.mac) (stored k.rmac) } else not_opened side BadKeyLength)
    go true = λ r e. no_refusal e
    go false = not_opened_lem side BadKeyLength (Memᴰ.tail (Memᴰ.head refl))
suite_refuses side None k = not_opened_lem side UnknownSuite (Memᴰ.head refl)

opening_refuses : (side : Side) (n : ℕ) (k : Keys) → Refuses side (opening side n k)
unfolding opening
opening_refuses side n k = suite_refuses side (suite_of n) k

pub host_opening_refuses : HostOpeningRefuses
host_opening_refuses o = subst (Refuses Host) (sym o.met.0) (opening_refuses Host o.args.0 (host_keys o))

pub card_opening_refuses : CardOpeningRefuses
card_opening_refuses o = subst (Refuses Card) (sym o.met.0) (opening_refuses Card o.args.0 (card_keys o))
