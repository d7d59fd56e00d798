-- An unwrap is these stages and then what it accepts: its result and its buffer, from what the stages answered. For the two unwraps.
use mathlib.Core.Path.{◌≡◌, sym, ap, ◌∙◌}
use Prim.Native.Nat.{ℕ}
use native.Mathlib.Omega.{arith}
use lib.ListN.{length}
use Rattle.octets.specs.Bytes.{Bytes}
use Rattle.octets.specs.Write.{over}
use Rattle.refusal.specs.declared.Refusal.{Refusal}
use Rattle.session.specs.declared.Session.{Session}
use Rattle.message_answer.specs.Answer.{Answer, refused, gave, ◌and_then◌, Outcome, Out, not_given, given, concluded, buffer}
use Rattle.message_verify.specs.VerifiedText.{verified}
use Rattle.std.specs.Prelude.{Result, Ok, Err}

no_data : {r : Refusal} {n : ℕ} {P : Type 0} → ◌≡◌ {A = Result ℕ Refusal} (Err r) (Ok n) → P
no_data e = let z : ◌≡◌ {A = ℕ} 0 1 = cc in let o : ⊥ = omega arith in absurd o

no_refusal : {r : Refusal} {n : ℕ} {P : Type 0} → ◌≡◌ {A = Result ℕ Refusal} (Ok n) (Err r) → P
no_refusal e = let z : ◌≡◌ {A = ℕ} 0 1 = cc in let o : ⊥ = omega arith in absurd o

module _ {G R : Type 0} (s : Session) (f : Out G → R) (writes : G → Bytes) (accepted : Bytes → Outcome G) (held out : Bytes) (result : R) where
  abbrev pub Opens : Answer Bytes → Type 0
  Opens t =
      (result ≡ f (concluded s (t and_then (λ d. gave (accepted d)))))
      × (out ≡ buffer writes held (concluded s (t and_then (λ d. gave (accepted d)))).answer)

  pub opens_refused : (t : Answer Bytes) (r : Refusal) → verified t ≡ Err r → out ≡ buffer (λ (d : Bytes). d) held t → result ≡ f (not_given s r) → Opens t
  unfolding ◌and_then◌ concluded buffer
  opens_refused (refused q) r e o p = let z : r ≡ q = cc in (p ∙ ap (λ (x : Refusal). f (not_given s x)) z, o)
  opens_refused (gave d) r e o p = no_refusal e

  pub opens_data : (t : Answer Bytes) (n : ℕ) → verified t ≡ Ok n → out ≡ buffer (λ (d : Bytes). d) held t
      → ((d : Bytes) → writes (accepted d).gives ≡ d) → ((d : Bytes) → n ≡ length d → result ≡ f (given (accepted d))) → Opens t
  unfolding ◌and_then◌ concluded buffer
  opens_data (refused q) n e o w p = no_data e
  opens_data (gave d) n e o w p = let z : n ≡ length d = cc in (p d z, o ∙ ap (over held) (sym (w d)))
