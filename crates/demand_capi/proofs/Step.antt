-- One call from C, handed the bytes of its end's session: what it gives, and what it leaves.
use mathlib.Core.Path.{◌≡◌, refl, sym, ap, subst, ◌∙◌}
use mathlib.Core.Bool.{Bool, true, false, ◌||◌}
use mathlib.Core.Logic.{◌⊎◌, inl, inr}
use mathlib.Core.List.{[], Memᴰ}
use Prim.Native.Nat.{ℕ, ◌/◌, ◌%◌}
use native.Mathlib.Omega.{arith}
use lib.ListN.{length, take, drop}
use lib.Seq.{take_at}
use Rattle.octets.specs.Bytes.{Bytes}
use Rattle.octets.specs.Write.{over}
use Rattle.apdu.specs.declared.StatusWord.{StatusWord}
use Rattle.apdu.specs.Apdu.{status_word, status_of}
use Rattle.refusal.specs.Refusal.{number}
use Rattle.refusal.specs.declared.Refusal.{Refusal}
use Rattle.refusal.specs.declared.Refusal.TheVariants.{SessionClosed, BadSession}
use Rattle.session.specs.declared.Session.{Session}
use Rattle.session_rules.specs.Valid.{valid, counts_as_open}
use Rattle.session_bytes.specs.Saved.{encode}
use Rattle.session_bytes.specs.Lengths.{Lengths}
use Rattle.message_ciphers.specs.Aes.{aes_ciphers}
use Rattle.message_ciphers.proofs.AesLaws.{aes_mac_length}
use Rattle.message_answer.specs.Message.{Response, CommandGiven}
use Rattle.message_answer.specs.Answer.{Answer, refused, gave, Out, buffer}
use Rattle.message_protocol.specs.Response.{response_accepted, host_unwraps}
use Rattle.message_protocol.specs.RefusalKeeps.{order}
use Rattle.message_protocol.specs.Transcript.{Call, wrap_command, unwrap_command, wrap_response, unwrap_response, close, Gives, does}
use Rattle.message_protocol.proofs.CallCases.{host_unwraps_lem}
use Rattle.message_protocol.proofs.RulesKept.{keeps_the_rules}
use Rattle.message_protocol.proofs.LengthsKept.{keeps_lengths}
use Rattle.message_protocol.proofs.OpenServed.{hit, met, answers_none_with_1, Serves, stays_open}
use Rattle.message_protocol.proofs.Theorems.{demand1}
use Rattle.message_result.specs.Results.{wrap_answer, command_answer, response_answer}
use Rattle.capi_values.specs.Values.{number_of, wrap_values, command_values, response_values}
use Rattle.refusal.proofs.Numbers.{number_suc}
use Rattle.capi_session.specs.SessionBytes.{Served, Held, put_in, own_buffer}
use Rattle.capi_session.proofs.HandedOn.{reads_back, left_bytes_lem, on_read}
use Rattle.capi_wrap_command.specs.Call as WrapCommand
use Rattle.capi_unwrap_command.specs.Call as UnwrapCommand
use Rattle.capi_wrap_response.specs.Call as WrapResponse
use Rattle.capi_unwrap_response.specs.Call as UnwrapResponse
use Rattle.demand_capi.specs.Calls.{Event, wraps_command, unwraps_command, wraps_response, unwraps_response, closes, seen, call, given, answered, answer}
use Rattle.demand_capi.specs.RefusalKeeps.{Closing}
use Rattle.demand_capi.specs.Agreement.{End, HandedOn, closed_by, is_closing, left_bytes}
use Rattle.demand_capi.proofs.Named.{wrap_command_told, unwrap_command_told, wrap_response_told, unwrap_response_told}
use Rattle.demand_capi.proofs.Told.{served, number_told_lem, held_told, output_told, held_bytes}

never : {P : Type 0} → ◌≡◌ {A = ℕ} 0 1 → P
never z = let o : ⊥ = omega arith in absurd o

-- ---- what a call gave

header_kept : (s : Session) (sw : StatusWord) (field : Bytes) (room : ℕ) (m : Response) → (host_unwraps aes_ciphers s sw field room).answer ≡ gave m → m.header ≡ sw
unfolding response_accepted
header_kept s sw field room =
    host_unwraps_lem aes_ciphers (λ (out : Out Response). (m : Response) → out.answer ≡ gave m → m.header ≡ sw) s sw field room
    (λ r m e. never (cc))
    (λ o d read m e. let q : record { header = sw; payload = d } ≡ m = cc in ap (λ (x : Response). x.header) (sym q))

-- the bytes that were written
taken : (xs before after : Bytes) (n : ℕ) → n ≡ length xs → after ≡ over before xs → take n after ≡ xs
unfolding over
taken xs before after n en ea = ap (take n) ea ∙ take_at xs (drop (length xs) before) n (sym en)

word_back : (sw : ℕ) (status : ℕ) (h : StatusWord) → status ≡ status_word h → h ≡ status_of sw
    → status_of status ≡ h
word_back sw status h e q =
    let a : h.sw1 ≡ sw / 256 = ap (λ (x : StatusWord). x.sw1) q in
    let b : h.sw2 ≡ sw % 256 = ap (λ (x : StatusWord). x.sw2) q in
    let hi : status / 256 ≡ h.sw1 = omega (arith, e, a, b) in
    let lo : status % 256 ≡ h.sw2 = omega (arith, e, a, b) in
    λ i. record { sw1 = hi i; sw2 = lo i }

pub given_told : (e : Event) (s : Session) (g : Gives (call e)) → (served e).answer ≡ gave g → (does aes_ciphers s (call e)).answer ≡ gave g → given e ≡ g
unfolding does buffer
given_told (wraps_command side c) s g q d =
    taken g _ _ _ (ap (λ (l : WrapCommand.Left). l.written) (wrap_command_told c) ∙ ap (λ (a : Answer Bytes). (wrap_values (wrap_answer a)).len) q)
    (output_told (wraps_command side c) ∙ ap (buffer (λ (f : Bytes). f) _) q)
given_told (unwraps_command side c) s g q d =
    let le_is = ap (λ (l : UnwrapCommand.Left). l.le) (unwrap_command_told c) ∙ ap (λ (a : Answer CommandGiven). (command_values (command_answer a)).le) q in
    let payload-is =
    taken g.payload _ _ _
    (ap (λ (l : UnwrapCommand.Left). l.written) (unwrap_command_told c) ∙ ap (λ (a : Answer CommandGiven). (command_values (command_answer a)).len) q)
    (output_told (unwraps_command side c) ∙ ap (buffer (λ (x : CommandGiven). x.payload) _) q) in
    λ i. record { payload = payload-is i; le = le_is i }
given_told (wraps_response side c) s g q d =
    taken g _ _ _ (ap (λ (l : WrapResponse.Left). l.written) (wrap_response_told c) ∙ ap (λ (a : Answer Bytes). (wrap_values (wrap_answer a)).len) q)
    (output_told (wraps_response side c) ∙ ap (buffer (λ (f : Bytes). f) _) q)
given_told (unwraps_response side c) s g q d =
    let status_is =
    ap (λ (l : UnwrapResponse.Left). l.status) (unwrap_response_told c) ∙ ap (λ (a : Answer Response). (response_values (response_answer a)).status) q in
    let header_is = word_back _ _ g.header status_is (header_kept s _ _ _ g d) in
    let payload-is =
    taken g.payload _ _ _
    (ap (λ (l : UnwrapResponse.Left). l.written) (unwrap_response_told c) ∙ ap (λ (a : Answer Response). (response_values (response_answer a)).len) q)
    (output_told (unwraps_response side c) ∙ ap (buffer (λ (x : Response). x.payload) _) q) in
    λ i. record { header = header_is i; payload = payload-is i }
given_told (closes side c) s g q d = refl

-- ---- an end, and the session that its bytes are of

pub record Good (x : End) (s : Session) : Type 0 where
  pub bytes : x.bytes ≡ encode s
  pub rules : valid s ≡ true
  pub lengths : Lengths s
  pub open_is : x.closed ≡ false → counts_as_open s ≡ true

pub lacks_16 : (c : Call) → Memᴰ 16 (order c) → ⊥
unfolding hit
lacks_16 (wrap_command side m room) d = let z : false ≡ true = met 16 _ d in never (cc)
lacks_16 (unwrap_command side h field room) d = let z : false ≡ true = met 16 _ d in never (cc)
lacks_16 (wrap_response side m room) d = let z : false ≡ true = met 16 _ d in never (cc)
lacks_16 (unwrap_response side sw field room) d = let z : false ≡ true = met 16 _ d in never (cc)
lacks_16 (close side) d = let z : false ≡ true = met 16 _ d in never (cc)

not_closing : (n : ℕ) → closed_by n ≡ false → Closing n → ⊥
not_closing n f (inl e) = let z : true ≡ false = sym (ap closed_by e) ∙ f in never (cc)
not_closing n f (inr e) = let z : true ≡ false = sym (ap closed_by e) ∙ f in never (cc)

keeps_open : (e : Event) → is_closing e ≡ false → (Closing (seen e).number → ⊥) × Serves (call e)
keeps_open (wraps_command side c) f = (not_closing c.result f, tt)
keeps_open (unwraps_command side c) f = (not_closing c.result f, tt)
keeps_open (wraps_response side c) f = (not_closing c.result f, tt)
keeps_open (unwraps_response side c) f = (not_closing c.result f, tt)
keeps_open (closes side c) f = never (cc)

both_false : (a b : Bool) → (a || b) ≡ false → (a ≡ false) × (b ≡ false)
both_false true b e = never (cc)
both_false false b e = (refl, e)

module _ (e : Event) (x : End) (s : Session) (good : Good x s) (handed : HandedOn x e) where
  abbrev out : Out (Gives (call e))
  out = does aes_ciphers s (call e)

  served_is : served e ≡ record { answer = out.answer; held = put_in (seen e).held out.next }
  served_is =
      on_read own_buffer (seen e).held s (λ (t : Session). does aes_ciphers t (call e))
      (reads_back (seen e).held s (held_bytes e) good.rules good.lengths (handed.bytes ∙ good.bytes) (handed.len ∙ ap length good.bytes))

  answer_is : (served e).answer ≡ out.answer
  answer_is = ap (λ (y : Served Held (Gives (call e))). y.answer) served_is

  pub number_is : (seen e).number ≡ number_of out.answer
  number_is = number_told_lem e ∙ ap number_of answer_is

  next_lengths : Lengths out.next
  next_lengths = keeps_lengths aes_ciphers aes_mac_length s good.lengths (call e)

  pub bytes_after : left_bytes e ≡ encode out.next
  bytes_after =
      ap (λ (h : Held). take h.len h.bytes) (held_told e ∙ ap (λ (y : Served Held (Gives (call e))). y.held) served_is)
      ∙ left_bytes_lem (seen e).held out.next next_lengths

  pub not_16 : (seen e).number ≡ number BadSession → ⊥
  not_16 n = go out.answer refl (sym number_is ∙ n)
    where
      go : (a : Answer (Gives (call e))) → out.answer ≡ a → number_of a ≡ 16 → ⊥
      go (refused r) q m = lacks_16 (call e) (subst (λ (i : ℕ). Memᴰ i (order (call e))) m (demand1 s (call e) r [] q).in_order)
      go (gave g) q m = omega (arith, m)

  pub one_if_closed : (seen e).number ≡ number SessionClosed → x.closed ≡ true
  one_if_closed n = go x.closed refl
    where
      by_answer : (a : Answer (Gives (call e))) → out.answer ≡ a → number_of a ≡ 1 → counts_as_open s ≡ true → ⊥
      by_answer (refused r) q m o = answers_none_with_1 aes_ciphers s o (call e) r q m
      by_answer (gave g) q m o = omega (arith, m)

      go : (b : Bool) → x.closed ≡ b → x.closed ≡ true
      go true f = f
      go false f = absurd (by_answer out.answer refl (sym number_is ∙ n) (good.open_is f))

  next_open : (x.closed || is_closing e) ≡ false → counts_as_open out.next ≡ true
  next_open f =
      let b = both_false x.closed (is_closing e) f in
      let k = keeps_open e b.1 in
      let o = good.open_is b.0 in
      go k.0 k.1 o out.answer refl
    where
      go : (Closing (seen e).number → ⊥) → Serves (call e) → counts_as_open s ≡ true → (a : Answer (Gives (call e))) → out.answer ≡ a → counts_as_open out.next ≡ true
      go not serves o (refused r) q =
          let n : (seen e).number ≡ number r = number_is ∙ ap number_of q in
          subst (λ (t : Session). counts_as_open t ≡ true) (sym ((demand1 s (call e) r [] q).stays (λ nine. not (subst Closing (sym n) nine)))) o
      go not serves o (gave g) q = stays_open aes_ciphers s o (call e) serves g q

  pub good_next : Good (record { bytes = left_bytes e; closed = x.closed || is_closing e }) out.next
  good_next =
      record {
        bytes = bytes_after;
        rules = keeps_the_rules aes_ciphers s good.rules (call e);
        lengths = next_lengths;
        open_is = next_open;
      }

  -- the answer is the definition's; where that is a refusal, another stands for it
  pub same_answer : ((r : Refusal) × (out.answer ≡ refused r) × (answer e ≡ refused BadSession)) ⊎ (answer e ≡ out.answer)
  same_answer = go out.answer refl
    where
      go : (a : Answer (Gives (call e))) → out.answer ≡ a
          → ((r : Refusal) × (out.answer ≡ refused r) × (answer e ≡ refused BadSession)) ⊎ (answer e ≡ out.answer)
      go (refused r) q =
          let n = number_suc r in
          inl (r, q, ap (λ (i : ℕ). answered i (given e)) (number_is ∙ ap number_of q ∙ n.1))
      go (gave g) q =
          inr (ap (λ (i : ℕ). answered i (given e)) (number_is ∙ ap number_of q) ∙ ap (λ (y : Gives (call e)). gave y) (given_told e s g (answer_is ∙ q) q) ∙ sym q)
