-- What a call with a PIV session gives and leaves: the definitions of Outcome.antt, of this session and its closing.
use Rattle.refusal.specs.declared.Refusal.{Refusal}
use Rattle.session.specs.Session.{closed}
use Rattle.session.specs.declared.Session.{Session}
use Rattle.message_answer.specs.Outcome as any
pub use Rattle.message_answer.specs.Outcome.{Answer, refused, gave}
unfoldable pub use Rattle.message_answer.specs.Outcome.{require◌else◌⨾◌, ◌and_then◌, buffer}

abbrev pub Outcome : Type 0 → Type 0
Outcome A = any.Outcome Session A

abbrev pub Out : Type 0 → Type 0
Out A = any.Out Session A

abbrev pub after_refusal : Session → Refusal → Session
after_refusal s r = any.after_refusal closed s r

abbrev pub not_given : {A : Type 0} → Session → Refusal → Out A
not_given s r = any.not_given closed s r

abbrev pub given : {A : Type 0} → Outcome A → Out A
given o = any.given o

unfoldable pub concluded : {A : Type 0} → Session → Answer (Outcome A) → Out A
unfolding any.concluded
concluded s a = any.concluded closed s a
