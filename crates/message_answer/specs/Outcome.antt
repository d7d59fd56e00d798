-- Rules 2.2 to 2.4: a call's answer, and the session that it leaves, for every type of session and
-- its closing.
use Rattle.std.specs.Prelude.{Bool, ◌||◌, eqb}
use Rattle.octets.specs.Bytes.{Bytes}
use Rattle.std.specs.Prelude.{if◌then◌else◌}
use Rattle.octets.specs.Write.{over}
use Rattle.refusal.specs.Refusal.{number}
use Rattle.refusal.specs.declared.Refusal.{Refusal}
use Rattle.refusal.specs.declared.Refusal.TheVariants.{BadMac, BadPadding}

infixr 2 require◌else◌⨾◌ ◌and_then◌
pub data Answer (A : Type 0) : Type 0 where
  refused : Refusal → Answer A
  gave : A → Answer A

-- the first refusal that applies: one test, one refusal, one line
unfoldable pub require◌else◌⨾◌ : {A : Type 0} → Bool → Refusal → Answer A → Answer A
require ok else r ⨾ rest = if ok then rest else refused r

-- one stage after another
unfoldable pub ◌and_then◌ : {A B : Type 0} → Answer A → (A → Answer B) → Answer B
refused r and_then more = refused r
gave a and_then more = more a

-- the caller's buffer, which held some bytes: at a refusal it stays; else what the call writes stands over its start
unfoldable pub buffer : {A : Type 0} → (A → Bytes) → Bytes → Answer A → Bytes
buffer writes held (refused r) = held
buffer writes held (gave a) = over held (writes a)

-- ---- the session

-- what a call gives, and the next session
pub record Outcome (S A : Type 0) : Type 0 where
  pub gives : A
  pub next : S

pub record Out (S A : Type 0) : Type 0 where
  pub answer : Answer A
  pub next : S

-- whether two refusals are the same, whatever they give beside their number
abbrev pub is : Refusal → Refusal → Bool
is r s = eqb (number r) (number s)

-- a wrong MAC and wrong padding
abbrev pub closes : Refusal → Bool
closes r = is r BadMac || is r BadPadding

-- a call that is not refused
abbrev pub given : {S A : Type 0} → Outcome S A → Out S A
given o = record { answer = gave o.gives; next = o.next }

module _ {S : Type 0} (closed : S → S) where
  -- a wrong MAC and wrong padding close the session; every other refusal keeps it as it was
  unfoldable pub after_refusal : S → Refusal → S
  after_refusal s r = if closes r then closed s else s

  -- a call that is refused
  abbrev pub not_given : {A : Type 0} → S → Refusal → Out S A
  not_given s r = record { answer = refused r; next = after_refusal s r }

  unfoldable pub concluded : {A : Type 0} → S → Answer (Outcome S A) → Out S A
  concluded s (refused r) = not_given s r
  concluded s (gave o) = given o
