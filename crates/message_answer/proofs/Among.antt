-- The refusals of an answer are among some numbers: of each stage, and so of a call.
use mathlib.Core.Path.{◌≡◌, refl, subst}
use mathlib.Core.Bool.{Bool, true, false}
use mathlib.Core.List.{List, ◌∷◌, Memᴰ}
use Prim.Native.Nat.{ℕ}
use Rattle.refusal.specs.Refusal.{number}
use Rattle.refusal.specs.declared.Refusal.{Refusal}
use Rattle.session.specs.Session.{closed}
use Rattle.session.specs.declared.Session.{Session}
use Rattle.message_answer.specs.Outcome as any
use Rattle.message_answer.specs.Answer.{Answer, refused, gave, require◌else◌⨾◌, ◌and_then◌, Outcome, concluded}
use Rattle.message_answer.proofs.Required.{not_given_lem}

abbrev pub Among : {A : Type 0} → List ℕ → Answer A → Type 0
Among ns a = (r : Refusal) → a ≡ refused r → Memᴰ (number r) ns

pub same_refusal : (A : Type 0) {q r : Refusal} → ◌≡◌ {A = Answer A} (refused q) (refused r) → q ≡ r
same_refusal A e = cc

pub refused_among : (A : Type 0) (ns : List ℕ) (q : Refusal) → Memᴰ (number q) ns → Among {A = A} ns (refused q)
refused_among A ns q m r e = subst (λ (x : Refusal). Memᴰ (number x) ns) (same_refusal A e) m

pub gave_among : {A : Type 0} (ns : List ℕ) (x : A) → Among ns (gave x)
gave_among ns x r e = not_given_lem e

pub require_among : {A : Type 0} (ns : List ℕ) (ok : Bool) (q : Refusal) (rest : Answer A) → Memᴰ (number q) ns → Among ns rest
    → Among ns (require ok else q ⨾ rest)
unfolding require◌else◌⨾◌
require_among {A} ns true q rest m f = f
require_among {A} ns false q rest m f = refused_among A ns q m

pub then_among : {A B : Type 0} (ns : List ℕ) (a : Answer A) (more : A → Answer B) → Among ns a → ((x : A) → Among ns (more x)) → Among ns (a and_then more)
unfolding ◌and_then◌
then_among {A} {B} ns (refused q) more f g = refused_among B ns q (f q refl)
then_among {A} {B} ns (gave x) more f g = g x

pub call_among : {S A : Type 0} (closing : S → S) (ns : List ℕ) (s : S) (a : Answer (any.Outcome S A)) → Among ns a
    → Among ns (any.concluded closing s a).answer
unfolding any.concluded
call_among {S} {A} closing ns s (refused q) f = refused_among A ns q (f q refl)
call_among {S} {A} closing ns s (gave x) f = gave_among ns x.gives

-- of a PIV session
pub concluded_among : {A : Type 0} (ns : List ℕ) (s : Session) (a : Answer (Outcome A)) → Among ns a → Among ns (concluded s a).answer
unfolding concluded
concluded_among ns s a f = call_among closed ns _ a f

-- ---- places in an order of numbers

pub first : {n : ℕ} {ns : List ℕ} → Memᴰ n (n ∷ ns)
first = Memᴰ.head refl

pub later : {m n : ℕ} {ns : List ℕ} → Memᴰ n ns → Memᴰ n (m ∷ ns)
later h = Memᴰ.tail h
