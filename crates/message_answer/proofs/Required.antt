-- The ways through a stage: a test that passes or refuses, and a stage after another.
use mathlib.Core.Path.{◌≡◌, refl}
use mathlib.Core.Bool.{Bool, true, false}
use Prim.Native.Nat.{ℕ}
use native.Mathlib.Omega.{arith}
use Rattle.refusal.specs.declared.Refusal.{Refusal}
use Rattle.message_answer.specs.Outcome.{Answer, refused, gave, require◌else◌⨾◌, ◌and_then◌}

pub not_refused : {A : Type 0} {r : Refusal} {x : A} {P : Type 0} → refused r ≡ gave x → P
not_refused e = let z : ◌≡◌ {A = ℕ} 0 1 = cc in let o : ⊥ = omega arith in absurd o

pub not_given_lem : {A : Type 0} {r : Refusal} {x : A} {P : Type 0} → gave x ≡ refused r → P
not_given_lem e = let z : ◌≡◌ {A = ℕ} 0 1 = cc in let o : ⊥ = omega arith in absurd o

-- what gives something passed its test
pub require_gave : {A : Type 0} (ok : Bool) (r : Refusal) (rest : Answer A) (x : A) → (require ok else r ⨾ rest) ≡ gave x → (ok ≡ true) × (rest ≡ gave x)
unfolding require◌else◌⨾◌
require_gave true r rest x e = (refl, e)
require_gave false r rest x e = not_refused e

-- a test that passes leaves the rest
pub pass : {A : Type 0} (ok : Bool) (r : Refusal) (rest a : Answer A) → ok ≡ true → rest ≡ a → (require ok else r ⨾ rest) ≡ a
unfolding require◌else◌⨾◌
pass ok r rest a e f = rw e f

pub require_case : {A : Type 0} (Q : Answer A → Type 0) (ok : Bool) (r : Refusal) (rest : Answer A) → Q (refused r) → (ok ≡ true → Q rest)
    → Q (require ok else r ⨾ rest)
unfolding require◌else◌⨾◌
require_case Q true r rest stop go = go refl
require_case Q false r rest stop go = stop

pub then_case : {A B : Type 0} (Q : Answer B → Type 0) (a : Answer A) (more : A → Answer B) → ((r : Refusal) → a ≡ refused r → Q (refused r))
    → ((x : A) → a ≡ gave x → Q (more x)) → Q (a and_then more)
unfolding ◌and_then◌
then_case Q (refused r) more stop go = stop r refl
then_case Q (gave x) more stop go = go x refl

pub first_refused : {A B : Type 0} (ok : Bool) (r : Refusal) (rest : Answer A) (more : A → Answer B) → ok ≡ false
    → ((require ok else r ⨾ rest) and_then more) ≡ refused r
unfolding require◌else◌⨾◌ ◌and_then◌
first_refused ok r rest more e = rw e
