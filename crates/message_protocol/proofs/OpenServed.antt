-- An open session is not answered 1, and stays open where it is served.
use mathlib.Core.Path.{◌≡◌, refl, subst}
use mathlib.Core.Bool.{Bool, true, false, ◌||◌}
use mathlib.Core.List.{List, [], ◌∷◌, Memᴰ}
use Prim.Native.Nat.{ℕ}
use native.Mathlib.Omega.{arith}
use borrow.Author.Tests.{eq-eqb}
use lib.Dec.{eqb}
use Rattle.refusal.specs.Refusal.{number}
use Rattle.refusal.specs.declared.Refusal.{Refusal}
use Rattle.session.specs.declared.Side.TheVariants.{Host, Card}
use Rattle.session.specs.declared.Phase.TheVariants.{Ready, Pending}
use Rattle.session.specs.declared.Session.{Session}
use Rattle.session_rules.specs.Valid.{counts_as_open}
use Rattle.session_rules.proofs.KeepsTheRules.{command_served, response_served}
use Rattle.message_ciphers.specs.Ciphers.{Ciphers}
use Rattle.message_answer.specs.Answer.{Answer, refused, gave, require◌else◌⨾◌, Out}
use Rattle.message_answer.proofs.Required.{not_refused}
use Rattle.message_answer.proofs.Among.{Among, gave_among, require_among, then_among, concluded_among, first, later}
use Rattle.message_protocol.specs.Command.{wrap_command_checks, unwrap_command_checks, command_wrapped, command_accepted, host_wraps, open_command, card_unwraps}
use Rattle.message_protocol.specs.Response.{wrap_response_checks, unwrap_response_checks, response_wrapped, response_accepted, card_wraps, open_response, host_unwraps}
use Rattle.message_protocol.specs.Transcript.{Call, wrap_command, unwrap_command, wrap_response, unwrap_response, close, does}
use Rattle.message_protocol.proofs.CallCases.{turn_is, host_wraps_lem, card_wraps_lem, card_unwraps_lem, host_unwraps_lem}
use Rattle.message_protocol.proofs.Refused.{objects_among, verified_among}

-- all numbers of the calls but 1
abbrev others : List ℕ
others = 2 ∷ 3 ∷ 4 ∷ 5 ∷ 6 ∷ 7 ∷ 8 ∷ 9 ∷ 10 ∷ 13 ∷ []

abbrev at3 : Memᴰ 3 others
at3 = later first

abbrev at4 : Memᴰ 4 others
at4 = later (later first)

abbrev at5 : Memᴰ 5 others
at5 = later (later (later first))

abbrev at6 : Memᴰ 6 others
at6 = later (later (later (later first)))

abbrev at7 : Memᴰ 7 others
at7 = later (later (later (later (later first))))

abbrev at8 : Memᴰ 8 others
at8 = later (later (later (later (later (later first)))))

abbrev at9 : Memᴰ 9 others
at9 = later (later (later (later (later (later (later first))))))

abbrev at10 : Memᴰ 10 others
at10 = later (later (later (later (later (later (later (later first)))))))

abbrev at13 : Memᴰ 13 others
at13 = later (later (later (later (later (later (later (later (later first))))))))

-- a member of a list is met in it
unfoldable pub hit : ℕ → List ℕ → Bool
hit n [] = false
hit n (m ∷ ns) = eqb n m || hit n ns

pub met : (n : ℕ) (ns : List ℕ) → Memᴰ n ns → hit n ns ≡ true
unfolding hit
met n [] x = elim x [ ]
met n (m ∷ ns) (Memᴰ.head e) = rw (eq-eqb n m e)
met n (m ∷ ns) (Memᴰ.tail d) = orb (eqb n m) (met n ns d)
  where
    orb : (t : Bool) {u : Bool} → u ≡ true → (t || u) ≡ true
    orb true e = refl
    orb false e = e

passes : {A : Type 0} (ok : Bool) (q : Refusal) (rest : Answer A) → ok ≡ true → Among others rest → Among others (require ok else q ⨾ rest)
unfolding require◌else◌⨾◌
passes ok q rest e f = rw e f

-- of every call but a closing
abbrev pub Serves : Call → Type 0
Serves (wrap_command side m room) = Unit {0}
Serves (unwrap_command side header field room) = Unit {0}
Serves (wrap_response side m room) = Unit {0}
Serves (unwrap_response side sw field room) = Unit {0}
Serves (close side) = ⊥

module _ (C : Ciphers) (s : Session) (open_is : counts_as_open s ≡ true) where
  among : (c : Call) → Among others (does C s c).answer
  unfolding does host_wraps open_command card_unwraps card_wraps open_response host_unwraps wrap_command_checks unwrap_command_checks wrap_response_checks unwrap_response_checks
  among (wrap_command side m room) =
      concluded_among others s _ (then_among others _ _
      (passes _ _ _ open_is
      (require_among others _ _ _ first
      (require_among others _ _ _ at3
      (require_among others _ _ _ at4
      (require_among others _ _ _ at5
      (require_among others _ _ _ at6
      (gave_among others tt)))))))
      (λ u. gave_among others _))
  among (unwrap_command side header field room) =
      concluded_among others s _ (then_among others _ _
      (passes _ _ _ open_is
      (require_among others _ _ _ first
      (require_among others _ _ _ at3
      (require_among others _ _ _ at4
      (require_among others _ _ _ at5
      (gave_among others tt))))))
      (λ u. then_among others _ _ (objects_among others _ at7 at8)
      (λ o. then_among others _ _ (verified_among others C _ _ _ _ room at6 at9 at10) (λ d. gave_among others _))))
  among (wrap_response side m room) =
      concluded_among others s _ (then_among others _ _
      (passes _ _ _ open_is
      (require_among others _ _ _ first
      (require_among others _ _ _ at3
      (require_among others _ _ _ at4
      (require_among others _ _ _ at6
      (gave_among others tt))))))
      (λ u. gave_among others _))
  among (unwrap_response side sw field room) =
      concluded_among others s _ (then_among others _ _
      (passes _ _ _ open_is
      (require_among others _ _ _ first
      (require_among others _ _ _ at13
      (require_among others _ _ _ at4
      (gave_among others tt)))))
      (λ u. then_among others _ _ (objects_among others _ at7 at8)
      (λ o. then_among others _ _ (verified_among others C _ _ _ _ room at6 at9 at10) (λ d. gave_among others _))))
  among (close side) = gave_among others tt

  pub answers_none_with_1 : (c : Call) (r : Refusal) → (does C s c).answer ≡ refused r → number r ≡ 1 → ⊥
  unfolding hit
  answers_none_with_1 c r e one = lacks (subst (λ (n : ℕ). Memᴰ n others) one (among c r e))
    where
      lacks : Memᴰ 1 others → ⊥
      lacks m = let z : false ≡ true = met 1 others m in let w : ◌≡◌ {A = ℕ} 0 1 = cc in omega arith

  abbrev StaysOpen : {A : Type 0} → Out A → Type 0
  StaysOpen {A} out = (a : A) → out.answer ≡ gave a → counts_as_open out.next ≡ true

  pub stays_open : (c : Call) → Serves c → StaysOpen (does C s c)
  unfolding does command_wrapped command_accepted response_wrapped response_accepted
  stays_open (wrap_command side m room) u =
      host_wraps_lem C StaysOpen s m room (λ r a e. not_refused e)
      (λ may a e. command_served s _ may.opened (turn_is Host Ready s may.turn).1 may.counted)
  stays_open (unwrap_command side header field room) u =
      card_unwraps_lem C StaysOpen s header field room (λ r a e. not_refused e)
      (λ o d read a e. command_served s _ read.may.opened (turn_is Card Ready s read.may.turn).1 read.may.counted)
  stays_open (wrap_response side m room) u =
      card_wraps_lem C StaysOpen s m room (λ r a e. not_refused e)
      (λ may a e. response_served s _ may.opened (turn_is Card Pending s may.turn).1)
  stays_open (unwrap_response side sw field room) u =
      host_unwraps_lem C StaysOpen s sw field room (λ r a e. not_refused e)
      (λ o d read a e. response_served s _ read.may.opened (turn_is Host Pending s read.may.turn).1)
  stays_open (close side) u = absurd u
