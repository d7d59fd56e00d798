-- A call on session bytes is the call on the session that they hold; its refusals keep the bytes or close the session.
use mathlib.Core.Path.{◌≡◌, refl, sym, ap, ◌∙◌}
use mathlib.Core.Bool.{Bool, true, false}
use mathlib.Core.Logic.{◌⊎◌, inl, inr}
use mathlib.Core.List.{◌∷◌, Memᴰ}
use Prim.Native.Nat.{ℕ}
use native.Mathlib.Omega.{arith}
use lib.Dec.{leb}
use lib.ListN.{length, get_or, take}
use Rattle.octets.specs.Bytes.{Bytes, IsBytes}
use Rattle.std.specs.Prelude.{if◌then◌else◌, Option, Some, None, Result, Ok, Err}
use Rattle.refusal.specs.Refusal.{number}
use Rattle.refusal.specs.declared.Refusal.{Refusal}
use Rattle.refusal.specs.declared.Refusal.TheVariants.{BadMac, BadPadding, BadSession}
use Rattle.session_suite.specs.Suites.{suite_of}
use Rattle.session_suite.specs.declared.Suite.{Suite}
use Rattle.session.specs.declared.Session.{Session}
use Rattle.session_rules.specs.Valid.{valid}
use Rattle.session_bytes.specs.Saved.{headed, session_from, unreadable, accepted, decode_suite, decode}
use Rattle.message_ciphers.specs.Aes.{aes_ciphers}
use Rattle.message_answer.specs.Answer.{Answer, refused, Out, buffer}
use Rattle.message_protocol.specs.RefusalKeeps.{order, writes, IsClosed}
use Rattle.message_protocol.specs.Transcript.{Call, Gives, does}
use Rattle.message_protocol.proofs.Theorems.{demand1}
use Rattle.capi_session.specs.SessionBytes.{Served, served_by, Held, session_in, put_in, on_session}
use Rattle.capi_session.proofs.Serving.{read_from}

abbrev pub served_call : Held → (c : Call) → Served Held (Gives c)
served_call held c = on_session held (λ s. does aes_ciphers s c)

-- ---- reading

never : {P : Type 0} → ◌≡◌ {A = ℕ} 0 1 → P
never z = let o : ⊥ = omega arith in absurd o

abbrev Only16 : Result Session Refusal → Type 0
Only16 d = (r : Refusal) → d ≡ Err r → r ≡ BadSession

unreadable_16 : Only16 unreadable
unreadable_16 r e = cc

accepted_16 : (s : Session) → Only16 (accepted s)
unfolding accepted
accepted_16 s = go (valid s)
  where
    go : (v : Bool) → Only16 (if v then Ok s else unreadable)
    go true = λ r e. never (cc)
    go false = unreadable_16

suite_16 : (b : Bytes) (n : Option Suite) → Only16 (decode_suite b n)
unfolding decode_suite
suite_16 b (Some suite) = accepted_16 (session_from b suite)
suite_16 b None = unreadable_16

decode_16 : (b : Bytes) → Only16 (decode b)
unfolding decode
decode_16 b = go (headed b)
  where
    go : (t : Bool) → Only16 (if t then decode_suite b (suite_of (get_or b 5 0)) else unreadable)
    go true = suite_16 b (suite_of (get_or b 5 0))
    go false = unreadable_16

pub read_16 : (h : Held) → Only16 (session_in h)
unfolding session_in
read_16 h = go (leb h.len (length h.bytes))
  where
    go : (t : Bool) → Only16 (if t then decode (take h.len h.bytes) else unreadable)
    go true = decode_16 (take h.len h.bytes)
    go false = unreadable_16

-- ---- refusals

abbrev pub Closing : Refusal → Type 0
Closing r = (number r ≡ number BadMac) ⊎ (number r ≡ number BadPadding)

-- the session that was read, closed, stands in its place
pub record Closes (before after : Held) : Type 0 where
  pub read : Session
  pub session : Session
  pub was_read : session_in before ≡ Ok read
  pub is_closed : IsClosed read session
  pub put_back : after ≡ put_in before session

pub record ServedKeeps (held : Held) (c : Call) (r : Refusal) (buf : Bytes) : Type 0 where
  pub in_order : Memᴰ (number r) (number BadSession ∷ order c)
  pub output : buffer (writes c) buf (served_call held c).answer ≡ buf
  pub closes : Closing r → Closes held (served_call held c).held
  pub stays : (Closing r → ⊥) → (served_call held c).held ≡ held

same_refusal : {A : Type 0} {q r : Refusal} → ◌≡◌ {A = Answer A} (refused q) (refused r) → q ≡ r
same_refusal e = cc

not_closing : {P : Type 0} (r : Refusal) → r ≡ BadSession → Closing r → P
not_closing r e (inl h) = let z : ⊥ = omega (arith, ap number e) in absurd z
not_closing r e (inr h) = let z : ⊥ = omega (arith, ap number e) in absurd z

module _ (held : Held) (c : Call) (bytes : IsBytes held.bytes) (r : Refusal) (buf : Bytes) where
  abbrev serves : Session → Out (Gives c)
  serves s = does aes_ciphers s c

  output_stays : (served_call held c).answer ≡ refused r → buffer (writes c) buf (served_call held c).answer ≡ buf
  unfolding buffer
  output_stays e = ap (buffer (writes c) buf) e

  by_reading : (a : Result Session Refusal) → session_in held ≡ a → (served_call held c).answer ≡ refused r → ServedKeeps held c r buf
  unfolding served_by
  by_reading (Ok s) read e =
      let out = serves s in
      let x : served_call held c ≡ record { answer = out.answer; held = put_in held out.next } = ap (λ a. served_by a (put_in held) held serves) read in
      let k = demand1 s c r buf (sym (ap (λ (y : Served Held (Gives c)). y.answer) x) ∙ e) in
      let f = read_from held s read in
      record {
        in_order = Memᴰ.tail k.in_order;
        output = output_stays e;
        closes = λ h. record {
          read = s;
          session = out.next;
          was_read = read;
          is_closed = k.closes h;
          put_back = ap (λ (y : Served Held (Gives c)). y.held) x;
        };
        stays = λ h. ap (λ (y : Served Held (Gives c)). y.held) x ∙ ap (put_in held) (k.stays h) ∙ f.back bytes;
      }
  by_reading (Err q) read e =
      let x : served_call held c ≡ record { answer = refused q; held = held } = ap (λ a. served_by a (put_in held) held serves) read in
      let is-16 : r ≡ BadSession = same_refusal (sym e ∙ ap (λ (y : Served Held (Gives c)). y.answer) x) ∙ read_16 held q read in
      record {
        in_order = Memᴰ.head (ap number is-16);
        output = output_stays e;
        closes = λ h. not_closing r is-16 h;
        stays = λ h. ap (λ (y : Served Held (Gives c)). y.held) x;
      }

  pub served_keeps : (served_call held c).answer ≡ refused r → ServedKeeps held c r buf
  served_keeps = by_reading (session_in held) refl
