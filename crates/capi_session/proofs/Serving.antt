-- A call on a session that is held, by what was read: for the proofs of the exported calls.
use mathlib.Core.Path.{◌≡◌, refl, sym, ap, ◌∙◌}
use mathlib.Core.Bool.{Bool, true, false, ◌||◌}
use mathlib.Core.List.{◌++◌}
use Prim.Native.Nat.{ℕ, ◌≤◌}
use native.Mathlib.Omega.{arith}
use borrow.Author.Tests.{leb-true}
use lib.Dec.{eqb, leb}
use lib.ListN.{length, take, drop, length-take, take-append-drop}
use Rattle.octets.specs.Bytes.{Bytes, IsBytes}
use Rattle.std.specs.Prelude.{if◌then◌else◌, Ok, Err}
use Rattle.octets.specs.Write.{over}
use Rattle.refusal.specs.Refusal.{number}
use Rattle.refusal.specs.declared.Refusal.{Refusal}
use Rattle.session.specs.declared.Session.{Session}
use Rattle.session_rules.specs.Valid.{valid}
use Rattle.session_bytes.specs.Saved.{session_size, decode, unreadable}
use Rattle.session_bytes.proofs.EncodeDecode.{decoded_read, decoded_valid, encode_decode}
use Rattle.message_answer.specs.Outcome as any
use Rattle.message_answer.specs.Outcome.{closes}
use Rattle.message_answer.specs.Answer.{Answer, refused, gave, Outcome, Out, concluded, buffer}
use Rattle.capi_values.specs.Values.{number_of}
use Rattle.capi_values.specs.declared.Values.{Values}
use Rattle.capi_session.specs.SessionBytes.{Served, served_by, Held, held_in, session_in, put_in, on_session, changes, replaced}
use Rattle.octets.proofs.ByteStrings.{bytes_taken}

-- ---- a buffer of the session's own

never : {P : Type 0} → ◌≡◌ {A = ℕ} 0 1 → P
never z = let o : ⊥ = omega arith in absurd o

-- the session that was read stands at the start of the buffer, and is as long as it was said to be
pub record ReadFrom (h : Held) (s : Session) : Type 0 where
  pub room : session_size ≤ length h.bytes
  pub long : h.len ≡ session_size
  pub rules : valid s ≡ true
  pub back : IsBytes h.bytes → put_in h s ≡ h

pub read_from : (h : Held) (s : Session) → session_in h ≡ Ok s → ReadFrom h s
unfolding session_in put_in over
read_from h s = go (leb h.len (length h.bytes)) refl
  where
    xs : Bytes
    xs = h.bytes

    go : (t : Bool) → leb h.len (length xs) ≡ t → (if t then decode (take h.len xs) else unreadable) ≡ Ok s → ReadFrom h s
    go true f e =
        let fits : h.len ≤ length xs = leb-true h.len (length xs) f in
        let read = decoded_read (take h.len xs) s e in
        let size : length (take h.len xs) ≡ session_size = read.first.size in
        let l : length (take h.len xs) ≡ h.len = omega (arith, length-take h.len xs) in
        let long : h.len ≡ session_size = sym l ∙ size in
        record {
          room = omega (arith, fits, long);
          long = long;
          rules = decoded_valid (take h.len xs) s e;
          back = λ bytes i. held_in ((ap (over xs) (encode_decode (take h.len xs) (bytes_taken h.len xs bytes) s e)
              ∙ ap (λ (n : ℕ). take h.len xs ++ drop n xs) l ∙ take-append-drop h.len xs) i) (sym long i);
        }
    go false f e = never (cc)

-- ---- where the session stays

-- a result that changes no session is a refusal that keeps it
pub unchanged : {A : Type 0} (s : Session) (x : Answer (Outcome A)) → changes (number_of (concluded s x).answer) ≡ false
    → (concluded s x).next ≡ s
unfolding concluded any.concluded any.after_refusal
unchanged s (refused r) e = rw (or_right (eqb (number r) 0) (closes r) e)
  where
    or_right : (a b : Bool) → (a || b) ≡ false → b ≡ false
    or_right true b e = never (cc)
    or_right false b e = e
unchanged s (gave o) e = never (cc)

-- ---- the exported calls

-- what an exported call gives: its numbers, what is held of the session, and the other buffer
pub record Gives {H A : Type 0} (values : Answer A → Values) (writes : A → Bytes) (before : Bytes) (x : Served H A) (v : Values)
    (held : H) (after : Bytes) : Type 0 where
  pub numbers : v ≡ values x.answer
  pub holds : held ≡ x.held
  pub output : after ≡ buffer writes before x.answer

module _ {A : Type 0} (values : Answer A → Values) (writes : A → Bytes) (before : Bytes) (h : Held) (call : Session → Out A) where
  -- where no session was read
  pub was_not_read : (r : Refusal) → session_in h ≡ Err r → (v : Values) → v ≡ values (refused r)
      → Gives values writes before (on_session h call) v h before
  unfolding served_by buffer
  was_not_read r read v e =
      let x = ap (λ a. served_by a (put_in h) h call) (sym read) in
      record {
        numbers = e ∙ ap (λ (y : Served Held A). values y.answer) x;
        holds = ap (λ (y : Served Held A). y.held) x;
        output = ap (λ (y : Served Held A). buffer writes before y.answer) x;
      }

  module _ (s : Session) (read : session_in h ≡ Ok s) where
    -- where one was, and the next is put in its place
    pub was_read : (v : Values) (held : Held) (after : Bytes) → v ≡ values (call s).answer
        → held ≡ put_in h (call s).next → after ≡ buffer writes before (call s).answer
        → Gives values writes before (on_session h call) v held after
    unfolding served_by
    was_read v held after ev eh eb =
        let x = ap (λ a. served_by a (put_in h) h call) (sym read) in
        record {
          numbers = ev ∙ ap (λ (y : Served Held A). values y.answer) x;
          holds = eh ∙ ap (λ (y : Served Held A). y.held) x;
          output = eb ∙ ap (λ (y : Served Held A). buffer writes before y.answer) x;
        }

    -- where one was, and it is replaced where the result changes it: a refusal that keeps the session leaves the bytes that were read
    pub was_replaced : IsBytes h.bytes → (stages : Answer (Outcome A)) → call s ≡ concluded s stages
        → ((a : Answer A) → (values a).number ≡ number_of a) → (v : Values) (next : Session) (held : Held) (after : Bytes)
        → v ≡ values (call s).answer → next ≡ (call s).next → held ≡ replaced v.number next h
        → after ≡ buffer writes before (call s).answer → Gives values writes before (on_session h call) v held after
    unfolding replaced
    was_replaced bytes stages is numbered v next held after ev en eh eb =
        was_read v held after ev (eh ∙ go (changes v.number) refl ∙ ap (put_in h) en) eb
      where
        number_is : v.number ≡ number_of (concluded s stages).answer
        number_is = ap (λ (x : Values). x.number) ev ∙ numbered (call s).answer ∙ ap (λ (o : Out A). number_of o.answer) is

        next_is : next ≡ (concluded s stages).next
        next_is = en ∙ ap (λ (o : Out A). o.next) is

        go : (t : Bool) → changes v.number ≡ t → (if t then put_in h next else h) ≡ put_in h next
        go true f = refl
        go false f =
            sym (ap (put_in h) (next_is ∙ unchanged s stages (ap changes (sym number_is) ∙ f)) ∙ (read_from h s read).back bytes)
