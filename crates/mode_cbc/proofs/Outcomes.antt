-- What an outcome tells of the data. Callers of `encrypt` and `decrypt` use these.
use mathlib.Core.Path.{◌≡◌, refl}
use mathlib.Core.Bool.{Bool, true, false}
use Prim.Native.Nat.{ℕ}
use native.Mathlib.Omega.{arith}
use Rattle.octets.specs.Bytes.{Bytes}
use Rattle.std.specs.Prelude.{if◌then◌else◌, Result, Ok, Err}
use Rattle.mode_cbc.specs.Whole.{whole, outcome, if_whole}
use Rattle.mode_cbc.specs.declared.PartialBlock.{PartialBlock}

abbrev told : Bool → Result (Unit {0}) PartialBlock
told t = if t then Ok tt else Err (record {})

when_ok : (t : Bool) {u : Unit {0}} → told t ≡ Ok u → t ≡ true
when_ok true e = refl
when_ok false e = let z : ◌≡◌ {A = ℕ} 0 1 = cc in let n : ⊥ = omega arith in absurd n

when_err : (t : Bool) {b : PartialBlock} → told t ≡ Err b → t ≡ false
when_err true e = let z : ◌≡◌ {A = ℕ} 0 1 = cc in let n : ⊥ = omega arith in absurd n
when_err false e = refl

pub done_whole : (xs : Bytes) {u : Unit {0}} → outcome xs ≡ Ok u → whole xs ≡ true
unfolding outcome
done_whole xs e = when_ok (whole xs) e

pub partial_not_whole : (xs : Bytes) {b : PartialBlock} → outcome xs ≡ Err b → whole xs ≡ false
unfolding outcome
partial_not_whole xs e = when_err (whole xs) e

pub done_changed : (f : Bytes → Bytes) (xs : Bytes) {u : Unit {0}} → outcome xs ≡ Ok u → if_whole f xs ≡ f xs
unfolding if_whole
done_changed f xs e = simp (done_whole xs e)

pub partial_kept : (f : Bytes → Bytes) (xs : Bytes) {b : PartialBlock} → outcome xs ≡ Err b → if_whole f xs ≡ xs
unfolding if_whole
partial_kept f xs e = simp (partial_not_whole xs e)
