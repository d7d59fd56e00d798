-- What a call leaves at the end of a stage, its result and the caller's buffer: as the stage that it goes on with leaves them, or refused.
use mathlib.Core.Path.{◌≡◌, refl}
use Rattle.octets.specs.Bytes.{Bytes}
use Rattle.refusal.specs.declared.Refusal.{Refusal}
use Rattle.session.specs.declared.Session.{Session}
use Rattle.message_answer.specs.Answer.{Answer, refused, Outcome, Out, not_given, concluded, buffer}

module _ {G R : Type 0} (s : Session) (f : Out G → R) (writes : G → Bytes) (held : Bytes) where
  abbrev pub Ends : R → Bytes → Answer (Outcome G) → Type 0
  Ends result out a = (result ≡ f (concluded s a)) × (out ≡ buffer writes held (concluded s a).answer)

  pub stage_goes_on : {a b : Answer (Outcome G)} {result : R} {out : Bytes} → a ≡ b → Ends result out b → Ends result out a
  stage_goes_on e p = rw e p

  pub stage_refused : {a : Answer (Outcome G)} {r : Refusal} {result : R} → a ≡ refused r → result ≡ f (not_given s r) → Ends result held a
  unfolding concluded buffer
  stage_refused e p = rw e (p, refl)
