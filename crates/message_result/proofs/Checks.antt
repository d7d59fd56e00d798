-- What the tests of a call answered, from what the function gave.
use mathlib.Core.Path.{◌≡◌, refl, ap}
use Prim.Native.Nat.{ℕ}
use native.Mathlib.Omega.{arith}
use Rattle.std.specs.Prelude.{Ok, Err}
use Rattle.refusal.specs.declared.Refusal.{Refusal}
use Rattle.message_answer.specs.Answer.{Answer, refused, gave, ◌and_then◌}
use Rattle.message_result.specs.Results.{Checked, checked}

no_pass : {r : Refusal} {P : Type 0} → ◌≡◌ {A = Checked} (Err r) (Ok tt) → P
no_pass e = let z : ◌≡◌ {A = ℕ} 0 1 = cc in let o : ⊥ = omega arith in absurd o

no_refusal : {r : Refusal} {P : Type 0} → ◌≡◌ {A = Checked} (Ok tt) (Err r) → P
no_refusal e = let z : ◌≡◌ {A = ℕ} 0 1 = cc in let o : ⊥ = omega arith in absurd o

pub was_passed : (a : Answer (Unit {0})) → checked a ≡ Ok tt → a ≡ gave tt
was_passed (refused r) e = no_pass e
was_passed (gave tt) e = refl

pub was_refused : (a : Answer (Unit {0})) (r : Refusal) → checked a ≡ Err r → a ≡ refused r
was_refused (refused q) r e = let p : q ≡ r = cc in ap refused p
was_refused (gave u) r e = no_refusal e

-- ---- a call that begins with tests

module _ {A : Type 0} (a : Answer (Unit {0})) (more : Unit {0} → Answer A) where
  pub tests_passed : checked a ≡ Ok tt → (a and_then more) ≡ more tt
  unfolding ◌and_then◌
  tests_passed e = ap (λ (b : Answer (Unit {0})). b and_then more) (was_passed a e)

  pub test_refused : {r : Refusal} → checked a ≡ Err r → (a and_then more) ≡ refused r
  unfolding ◌and_then◌
  test_refused {r} e = ap (λ (b : Answer (Unit {0})). b and_then more) (was_refused a r e)
