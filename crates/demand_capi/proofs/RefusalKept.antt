-- Demand 1 of the calls from C, from demand 1 of the definitions.
use mathlib.Core.Path.{◌≡◌, refl, sym, ap, subst, ◌∙◌}
use mathlib.Core.Bool.{Bool, true, false}
use mathlib.Core.List.{List, [], ◌∷◌, Memᴰ}
use Prim.Native.Nat.{ℕ}
use native.Mathlib.Omega.{arith}
use lib.Dec.{leb}
use lib.ListN.{length, drop}
use lib.Seq.{drop_at}
use Rattle.octets.specs.Bytes.{Bytes}
use Rattle.std.specs.Prelude.{if◌then◌else◌, Option, Some, None, Result, Ok, Err}
use Rattle.octets.specs.Write.{over}
use Rattle.refusal.specs.Refusal.{number, size, status}
use Rattle.refusal.specs.declared.Refusal.{Refusal}
use Rattle.refusal.specs.declared.Refusal.TheVariants.{BufferTooSmall, UnknownSuite, BadKeyLength, BadSession}
use Rattle.session_suite.specs.Suites.{key_length, suite_of}
use Rattle.session_suite.specs.declared.Suite.{Suite}
use Rattle.session_suite.specs.StoredKeys.{stored, Keys, keys_fit}
use Rattle.session.specs.Session.{fresh}
use Rattle.session.specs.Opening.{not_opened, open_suite, opening}
use Rattle.session.specs.declared.Side.{Side}
use Rattle.session.specs.declared.Side.TheVariants.{Host, Card}
use Rattle.session.specs.declared.Session.{Session}
use Rattle.session_bytes.specs.Saved.{session_size, encode}
use Rattle.message_ciphers.specs.Aes.{aes_ciphers}
use Rattle.message_answer.specs.Answer.{Answer, refused, gave, require◌else◌⨾◌, buffer}
use Rattle.message_answer.specs.Message.{CommandGiven, Response}
use Rattle.message_protocol.specs.RefusalKeeps.{order}
use Rattle.message_protocol.specs.Transcript.{Gives, does}
use Rattle.message_protocol.proofs.OpenServed.{hit, met}
use Rattle.message_protocol.proofs.Theorems.{demand1}
use Rattle.message_result.specs.Results.{wrap_answer, command_answer, response_answer}
use Rattle.capi_values.specs.Values.{number_of, wrap_values, command_values, response_values}
use Rattle.refusal.proofs.Numbers.{number_suc, no_size, no_status}
use Rattle.capi_session.specs.SessionBytes.{Served, served_by, Held, session_in, put_in}
use Rattle.capi_open.specs.Call.{Given, Left, saved, opened_as, leaves, pivsm_open}
use Rattle.capi_wrap_command.specs.Call as WrapCommand
use Rattle.capi_unwrap_command.specs.Call as UnwrapCommand
use Rattle.capi_wrap_response.specs.Call as WrapResponse
use Rattle.capi_unwrap_response.specs.Call as UnwrapResponse
use Rattle.demand_capi.specs.Calls.{open_host_given, open_host_left, open_card_given, open_card_left, Event, wraps_command, unwraps_command, wraps_response, unwraps_response, closes, seen, call}
use Rattle.demand_capi.specs.RefusalKeeps.{output, Closing, RefusalKeeps, SixteenExactly, RestKeeps, Refuses, HostOpeningRefuses, CardOpeningRefuses}
use Rattle.demand_capi.proofs.Named.{open_host_told, open_card_told, wrap_command_told, unwrap_command_told, wrap_response_told, unwrap_response_told}
use Rattle.demand_capi.proofs.Step.{lacks_16}
use Rattle.demand_capi.proofs.ServedCall.{read_16, served_keeps}
use Rattle.demand_capi.proofs.Told.{served, number_told_lem, held_told, output_told, held_bytes}

-- an answer whose number is not 0 is a refusal
pub refused_is : {A : Type 0} (a : Answer A) → (number_of a ≡ 0 → ⊥) → (r : Refusal) × (a ≡ refused r)
refused_is (refused r) h = (r, refl)
refused_is (gave a) h = absurd (h refl)

-- ---- the numbers of a refusal

-- a number that no order has
lacks_13 : (ns : List ℕ) (r : Refusal) → hit 13 ns ≡ false → Memᴰ (number r) ns → number r ≡ 13 → ⊥
lacks_13 ns r f m e = let z : false ≡ true = sym f ∙ met 13 ns (subst (λ (i : ℕ). Memᴰ i ns) e m) in let w : ◌≡◌ {A = ℕ} 0 1 = cc in omega arith

only_16 : (r : Refusal) → Memᴰ (number r) (16 ∷ []) → number r ≡ 6 → ⊥
unfolding hit
only_16 r m e = let z : false ≡ true = met 6 (16 ∷ []) (subst (λ (i : ℕ). Memᴰ i (16 ∷ [])) e m) in let w : ◌≡◌ {A = ℕ} 0 1 = cc in omega arith

length_told : (e : Event) (r : Refusal) → (served e).answer ≡ refused r → Memᴰ (number r) (16 ∷ order (call e)) → (output e).written ≡ size r
unfolding does
length_told (wraps_command side c) r q m =
    ap (λ (l : WrapCommand.Left). l.written) (wrap_command_told c)
    ∙ ap (λ (a : Answer Bytes). (wrap_values (wrap_answer a)).len) q
length_told (unwraps_command side c) r q m =
    ap (λ (l : UnwrapCommand.Left). l.written) (unwrap_command_told c)
    ∙ ap (λ (a : Answer CommandGiven). (command_values (command_answer a)).len) q
length_told (wraps_response side c) r q m =
    ap (λ (l : WrapResponse.Left). l.written) (wrap_response_told c)
    ∙ ap (λ (a : Answer Bytes). (wrap_values (wrap_answer a)).len) q
length_told (unwraps_response side c) r q m =
    ap (λ (l : UnwrapResponse.Left). l.written) (unwrap_response_told c)
    ∙ ap (λ (a : Answer Response). (response_values (response_answer a)).len) q
length_told (closes side c) r q m = sym (no_size r (only_16 r m))

status_told_lem : (e : Event) (r : Refusal) → (served e).answer ≡ refused r → Memᴰ (number r) (16 ∷ order (call e)) → (output e).status ≡ status r
unfolding does hit
status_told_lem (wraps_command side c) r q m = sym (no_status r (lacks_13 _ r refl m))
status_told_lem (unwraps_command side c) r q m = sym (no_status r (lacks_13 _ r refl m))
status_told_lem (wraps_response side c) r q m = sym (no_status r (lacks_13 _ r refl m))
status_told_lem (unwraps_response side c) r q m =
    ap (λ (l : UnwrapResponse.Left). l.status) (unwrap_response_told c)
    ∙ ap (λ (a : Answer Response). (response_values (response_answer a)).status) q
status_told_lem (closes side c) r q m = sym (no_status r (lacks_13 _ r refl m))

le_none : (e : Event) (r : Refusal) → (served e).answer ≡ refused r → (output e).le ≡ false
unfolding does
le_none (wraps_command side c) r q = refl
le_none (unwraps_command side c) r q =
    ap (λ (l : UnwrapCommand.Left). l.le) (unwrap_command_told c)
    ∙ ap (λ (a : Answer CommandGiven). (command_values (command_answer a)).le) q
le_none (wraps_response side c) r q = refl
le_none (unwraps_response side c) r q = refl
le_none (closes side c) r q = refl

pub refusal_keeps : RefusalKeeps
refusal_keeps e nonzero =
    let x = refused_is (served e).answer (λ z. nonzero (number_told_lem e ∙ z)) in
    let n : (seen e).number ≡ number x.0 = number_told_lem e ∙ ap number_of x.1 in
    let k = served_keeps (seen e).held (call e) (held_bytes e) x.0 (output e).before x.1 in
    record {
      refusal = x.0;
      refuses = x.1;
      in_order = subst (λ (i : ℕ). Memᴰ i (number BadSession ∷ order (call e))) (sym n) k.in_order;
      number_is = n;
      length_is = length_told e x.0 x.1 k.in_order;
      status_is = status_told_lem e x.0 x.1 k.in_order;
      no_le = le_none e x.0 x.1;
      buffer_stays = output_told e ∙ k.output;
      closed = λ h.
          let t = k.closes (subst Closing n h) in
          record { read = t.read; session = t.session; was_read = t.was_read; is_closed = t.is_closed; held = held_told e ∙ t.put_back };
      stays = λ h. held_told e ∙ k.stays (λ z. h (subst Closing (sym n) z));
    }

-- ---- 16 exactly where no session can be read

pub sixteen_exactly : SixteenExactly
unfolding served_by
sixteen_exactly e = (λ n. go (session_in (seen e).held) refl n, λ u. number_told_lem e ∙ ap (λ a. number_of (at_reading a).answer) u)
  where
    at_reading : Result Session Refusal → Served Held (Gives (call e))
    at_reading a = served_by a (put_in (seen e).held) (seen e).held (λ s. does aes_ciphers s (call e))

    zero_is_not_16 : ◌≡◌ {A = ℕ} 0 16 → ⊥
    zero_is_not_16 z = omega (arith, z)

    go : (a : Result Session Refusal) → session_in (seen e).held ≡ a → (seen e).number ≡ number BadSession → session_in (seen e).held ≡ Err BadSession
    go (Err q) read n = read ∙ ap (λ (r : Refusal). Err r) (read_16 (seen e).held q read)
    go (Ok s) read n =
        let x = refused_is (served e).answer (λ z. zero_is_not_16 (sym (number_told_lem e ∙ z) ∙ n)) in
        let m : number x.0 ≡ 16 = sym (ap number_of x.1) ∙ sym (number_told_lem e) ∙ n in
        let f = (demand1 s (call e) x.0 [] (sym (ap (λ a. (at_reading a).answer) read) ∙ x.1)).in_order in
        absurd (lacks_16 (call e) (subst (λ (i : ℕ). Memᴰ i (order (call e))) m f))

-- ---- what is not written stays

rest : (xs ys : Bytes) (n : ℕ) → n ≡ length ys → drop n (over xs ys) ≡ drop n xs
unfolding over
rest xs ys n e = drop_at ys (drop (length ys) xs) n (sym e) ∙ ap (λ (i : ℕ). drop i xs) (sym e)

not_refused : {A : Type 0} (a : Answer A) → number_of a ≡ 0 → (x : A) × (a ≡ gave x)
not_refused (refused r) e = let n = number_suc r in let o : ⊥ = omega (arith, n.1, e) in absurd o
not_refused (gave x) e = (x, refl)

pub rest_keeps : RestKeeps
unfolding does buffer
rest_keeps (wraps_command side c) z =
    let x = not_refused (served (wraps_command side c)).answer (sym (number_told_lem (wraps_command side c)) ∙ z) in
    ap (drop (output (wraps_command side c)).written) (output_told (wraps_command side c) ∙ ap (buffer (λ (f : Bytes). f) _) x.1)
    ∙ rest _ x.0 _ (ap (λ (l : WrapCommand.Left). l.written) (wrap_command_told c) ∙ ap (λ (a : Answer Bytes). (wrap_values (wrap_answer a)).len) x.1)
rest_keeps (unwraps_command side c) z =
    let x = not_refused (served (unwraps_command side c)).answer (sym (number_told_lem (unwraps_command side c)) ∙ z) in
    ap (drop (output (unwraps_command side c)).written) (output_told (unwraps_command side c) ∙ ap (buffer (λ (g : CommandGiven). g.payload) _) x.1)
    ∙ rest _ x.0.payload _
    (ap (λ (l : UnwrapCommand.Left). l.written) (unwrap_command_told c)
    ∙ ap (λ (a : Answer CommandGiven). (command_values (command_answer a)).len) x.1)
rest_keeps (wraps_response side c) z =
    let x = not_refused (served (wraps_response side c)).answer (sym (number_told_lem (wraps_response side c)) ∙ z) in
    ap (drop (output (wraps_response side c)).written) (output_told (wraps_response side c) ∙ ap (buffer (λ (f : Bytes). f) _) x.1)
    ∙ rest _ x.0 _ (ap (λ (l : WrapResponse.Left). l.written) (wrap_response_told c) ∙ ap (λ (a : Answer Bytes). (wrap_values (wrap_answer a)).len) x.1)
rest_keeps (unwraps_response side c) z =
    let x = not_refused (served (unwraps_response side c)).answer (sym (number_told_lem (unwraps_response side c)) ∙ z) in
    ap (drop (output (unwraps_response side c)).written) (output_told (unwraps_response side c) ∙ ap (buffer (λ (m : Response). m.payload) _) x.1)
    ∙ rest _ x.0.payload _
    (ap (λ (l : UnwrapResponse.Left). l.written) (unwrap_response_told c)
    ∙ ap (λ (a : Answer Response). (response_values (response_answer a)).len) x.1)
rest_keeps (closes side c) z = refl

-- ---- openings

abbrev Among : Answer Bytes → Type 0
Among a = (r : Refusal) → a ≡ refused r → Memᴰ (number r) (11 ∷ 12 ∷ 6 ∷ []) × (number r ≡ 6 → size r ≡ session_size)

same_refusal : {q r : Refusal} → ◌≡◌ {A = Answer Bytes} (refused q) (refused r) → q ≡ r
same_refusal e = cc

among : (q : Refusal) → Memᴰ (number q) (11 ∷ 12 ∷ 6 ∷ []) → (number q ≡ 6 → size q ≡ session_size) → Among (refused q)
among q m s r e =
    subst (λ (x : Refusal). Memᴰ (number x) (11 ∷ 12 ∷ 6 ∷ []) × (number x ≡ 6 → size x ≡ session_size)) (same_refusal e) (m, s)

saved_among : (s : Session) (room : ℕ) → Among (saved s room)
unfolding saved require◌else◌⨾◌
saved_among s room = go (leb session_size room)
  where
    go : (t : Bool) → Among (if t then gave (encode s) else refused (BufferTooSmall session_size))
    go true = λ r e. let z : ◌≡◌ {A = ℕ} 0 1 = cc in let o : ⊥ = omega arith in absurd o
    go false = among (BufferTooSmall session_size) (Memᴰ.tail (Memᴰ.tail (Memᴰ.head refl))) (λ e. refl)

suite_among : (side : Side) (n : Option Suite) (k : Keys) (room : ℕ) → let o = open_suite side n k in Among (opened_as o.answer o.next room)
unfolding open_suite opened_as
suite_among side (Some suite) k room = go (keys_fit (key_length suite) k)
  where
    s : Session
    s = fresh side suite (stored k.enc) (stored k.mac) (stored k.rmac)

    go : (fit : Bool) → let o = (if fit then record { answer = Ok tt; next = s } else not_opened side BadKeyLength) in
        Among (opened_as o.answer o.next room)
    go true = saved_among s room
    go false = among BadKeyLength (Memᴰ.tail (Memᴰ.head refl)) (λ e. let o : ⊥ = omega (arith, e) in absurd o)
suite_among side None k room = among UnknownSuite (Memᴰ.head refl) (λ e. let o : ⊥ = omega (arith, e) in absurd o)

open_among : (side : Side) (n : ℕ) (k : Keys) (room : ℕ) → let o = opening side n k in Among (opened_as o.answer o.next room)
unfolding opening
open_among side n k room = suite_among side (suite_of n) k room

-- of an opening's answer
refuses : (before : Bytes) (a : Answer Bytes) → Among a → ((leaves before a).number ≡ 0 → ⊥) → Refuses before (leaves before a)
unfolding buffer
refuses before (refused r) m h =
    record { in_order = (m r refl).0; no_length = λ six. no_size r six; needed = λ six. (m r refl).1 six; stays = refl }
refuses before (gave s) m h = absurd (h refl)

opening_refuses : (side : Side) (g : Given) (l : Left) → l ≡ pivsm_open side g → (l.number ≡ 0 → ⊥) → Refuses g.session l
opening_refuses side g l e h =
    let o = opening side g.suite g.keys in
    subst (Refuses g.session) (sym e)
    (refuses g.session (opened_as o.answer o.next (length g.session)) (open_among side g.suite g.keys (length g.session))
    (λ z. h (ap (λ (x : Left). x.number) e ∙ z)))

pub host_opening_refuses : HostOpeningRefuses
host_opening_refuses o = opening_refuses Host (open_host_given o) (open_host_left o) (open_host_told o)

pub card_opening_refuses : CardOpeningRefuses
card_opening_refuses o = opening_refuses Card (open_card_given o) (open_card_left o) (open_card_told o)
