-- What a refusal leaves: the session, or at 9 and 10 the closed one.
use mathlib.Core.Path.{◌≡◌, ap}
use mathlib.Core.Logic.{◌⊎◌, inl, inr}
use mathlib.Core.Bool.{Bool, true, false}
use native.Mathlib.Omega.{arith}
use borrow.Author.Tests.{eq-eqb, ne_eqb}
use Rattle.std.specs.Prelude.{if◌then◌else◌}
use Rattle.refusal.specs.Refusal.{number}
use Rattle.refusal.specs.declared.Refusal.{Refusal}
use Rattle.session.specs.Session.{closed}
use Rattle.session.specs.declared.Session.{Session}
use Rattle.message_answer.specs.Outcome as any
use Rattle.message_answer.specs.Outcome.{closes}
use Rattle.message_answer.specs.Answer.{Answer, refused, gave, Outcome, after_refusal, concluded}
use Rattle.message_answer.proofs.Required.{not_given_lem}
use Rattle.message_answer.proofs.Among.{same_refusal}

-- ---- of every type of session, with its closing

module _ {S : Type 0} (closing : S → S) where
  pub after_refusal_lem : (Q : S → Type 0) (s : S) (r : Refusal) → Q s → Q (closing s) → Q (any.after_refusal closing s r)
  unfolding any.after_refusal
  after_refusal_lem Q s r stays shut = go (closes r)
    where
      go : (t : Bool) → Q (if t then closing s else s)
      go true = shut
      go false = stays

  pub refusal_closes : (s : S) (r : Refusal) → (number r ≡ 9) ⊎ (number r ≡ 10) → any.after_refusal closing s r ≡ closing s
  unfolding any.after_refusal
  refusal_closes s r (inl e) = rw (eq-eqb (number r) 9 e)
  refusal_closes s r (inr e) = let f : number r ≡ 9 → ⊥ = λ q. omega (arith, e, q) in rw (ne_eqb (number r) 9 f, eq-eqb (number r) 10 e)

  pub refusal_stays : (s : S) (r : Refusal) → ((number r ≡ 9) ⊎ (number r ≡ 10) → ⊥) → any.after_refusal closing s r ≡ s
  unfolding any.after_refusal
  refusal_stays s r f = rw (ne_eqb (number r) 9 (λ e. f (inl e)), ne_eqb (number r) 10 (λ e. f (inr e)))

  pub refusal_leaves : (A : Type 0) (s : S) (a : Answer (any.Outcome S A)) (r : Refusal) → (any.concluded closing s a).answer ≡ refused r
      → (any.concluded closing s a).next ≡ any.after_refusal closing s r
  unfolding any.concluded
  refusal_leaves A s (refused q) r e = ap (any.after_refusal closing s) (same_refusal A e)
  refusal_leaves A s (gave x) r e = not_given_lem e

-- ---- of a PIV session

module _ (s : Session) where
  pub session_closes : (r : Refusal) → (number r ≡ 9) ⊎ (number r ≡ 10) → after_refusal s r ≡ closed s
  session_closes r e = refusal_closes closed _ r e

  pub session_stays : (r : Refusal) → ((number r ≡ 9) ⊎ (number r ≡ 10) → ⊥) → after_refusal s r ≡ s
  session_stays r f = refusal_stays closed _ r f

  pub session_left : (A : Type 0) (a : Answer (Outcome A)) (r : Refusal) → (concluded s a).answer ≡ refused r → (concluded s a).next ≡ after_refusal s r
  unfolding concluded
  session_left A a r e = refusal_leaves closed A _ a r e
