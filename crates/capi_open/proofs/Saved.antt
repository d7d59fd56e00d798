-- What a saving leaves of a session that was opened: its bytes, or no room for them.
use mathlib.Core.Path.{◌≡◌, refl, ap}
use mathlib.Core.Bool.{Bool, true, false}
use Prim.Native.Nat.{ℕ}
use native.Mathlib.Omega.{arith}
use lib.Dec.{leb}
use Rattle.octets.specs.Bytes.{Bytes}
use Rattle.std.specs.Prelude.{if◌then◌else◌, Ok, Err}
use Rattle.refusal.specs.declared.Refusal.{Refusal}
use Rattle.refusal.specs.declared.Refusal.TheVariants.{BufferTooSmall}
use Rattle.octets.proofs.Tests.{both}
use Rattle.session_suite.specs.StoredKeys.{Keys}
use Rattle.session.specs.Opening.{opening}
use Rattle.session.specs.declared.Side.{Side}
use Rattle.session.specs.declared.Session.{Session}
use Rattle.session_rules.proofs.KeepsTheRules.{opening_served}
use Rattle.session_rules.specs.Valid.{valid, is_open, counts_as_open}
use Rattle.session_bytes.specs.Saved.{session_size, encode}
use Rattle.session_bytes.specs.Saving.{Encoding, encoding}
use Rattle.message_answer.specs.Answer.{Answer, refused, gave, require◌else◌⨾◌}
use Rattle.capi_open.specs.Call.{OpenedValid, saved}

-- a session that was opened keeps the rules
pub opened_valid : (side : Side) (suite : ℕ) (k : Keys) → OpenedValid (opening side suite k)
unfolding counts_as_open
opened_valid side suite k e =
    let s = (opening side suite k).next in (both (is_open s.phase) (valid s) (opening_served side suite k e)).1

module _ (s : Session) (rules : valid s ≡ true) (room : ℕ) where
  never : {P : Type 0} → ◌≡◌ {A = ℕ} 0 1 → P
  never z = let o : ⊥ = omega arith in absurd o

  -- saving a session that keeps the rules is refused for lack of room alone
  abbrev Saves : Encoding → Answer Bytes → Type 0
  Saves e a = ((r : Refusal) → e ≡ Err r → a ≡ refused r) × ((u : Unit {0}) → e ≡ Ok u → a ≡ gave (encode s))

  by_room : (fits : Bool)
      → Saves (if fits then Ok tt else Err (BufferTooSmall session_size)) (if fits then gave (encode s) else refused (BufferTooSmall session_size))
  by_room true = (λ r e. never (cc), λ u e. refl)
  by_room false = (λ r e. let z : BufferTooSmall session_size ≡ r = cc in ap refused z, λ u e. never (cc))

  saves : Saves (encoding s room) (saved s room)
  unfolding encoding saved require◌else◌⨾◌
  saves = rw rules (by_room (leb session_size room))

  pub not_saved : (r : Refusal) → encoding s room ≡ Err r → saved s room ≡ refused r
  not_saved = saves.0

  pub was_saved : (u : Unit {0}) → encoding s room ≡ Ok u → saved s room ≡ gave (encode s)
  was_saved = saves.1
