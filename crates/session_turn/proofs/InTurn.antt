-- A call is in turn exactly where its side and its phase are the session's own.
use mathlib.Core.Path.{◌≡◌, refl}
use mathlib.Core.Bool.{true, false}
use Prim.Native.Nat.{ℕ}
use native.Mathlib.Omega.{arith}
use Rattle.octets.proofs.Tests.{both}
use Rattle.session.specs.declared.Side.{Side}
use Rattle.session.specs.declared.Side.TheVariants.{Host, Card}
use Rattle.session.specs.declared.Phase.{Phase}
use Rattle.session.specs.declared.Phase.TheVariants.{Ready, Pending, Closed}
use Rattle.session_turn.specs.Turn.{same_side, same_phase, is_turn}

no_test : {P : Type 0} → false ≡ true → P
no_test e = let z : ◌≡◌ {A = ℕ} 0 1 = cc in let n : ⊥ = omega arith in absurd n

side_is : (a b : Side) → same_side a b ≡ true → a ≡ b
side_is Host Host e = refl
side_is Host Card e = no_test e
side_is Card Host e = no_test e
side_is Card Card e = refl

phase_is : (a b : Phase) → same_phase a b ≡ true → a ≡ b
phase_is Ready Ready e = refl
phase_is Ready Pending e = no_test e
phase_is Ready Closed e = no_test e
phase_is Pending Ready e = no_test e
phase_is Pending Pending e = refl
phase_is Pending Closed e = no_test e
phase_is Closed Ready e = no_test e
phase_is Closed Pending e = no_test e
phase_is Closed Closed e = refl

pub in_turn : (side : Side) (phase : Phase) (own : Side) (current : Phase) → is_turn side phase own current ≡ true
    → (own ≡ side) × (current ≡ phase)
unfolding is_turn
in_turn side phase own current e =
    let b = both (same_side own side) (same_phase current phase) e in
    (side_is own side b.0, phase_is current phase b.1)

pub own_turn : (side : Side) (phase : Phase) → is_turn side phase side phase ≡ true
unfolding is_turn
own_turn Host Ready = refl
own_turn Host Pending = refl
own_turn Host Closed = refl
own_turn Card Ready = refl
own_turn Card Pending = refl
own_turn Card Closed = refl
