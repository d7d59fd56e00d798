-- Which numbers saving and reading answer with: 1 for a session that breaks the rules, then 6 with the size needed, else 0 with the size;
-- 0 with the session, or 16 and no session.
use mathlib.Core.Path.{◌≡◌, refl}
use mathlib.Core.Bool.{Bool, true, false}
use mathlib.Core.Logic.{◌⊎◌, inl, inr}
use Prim.Native.Nat.{ℕ}
use lib.Dec.{leb}
use lib.ListN.{get_or}
use Rattle.octets.specs.Bytes.{Bytes}
use Rattle.std.specs.Prelude.{if◌then◌else◌, Option, Some, None, Ok, Err}
use Rattle.refusal.specs.declared.Refusal.TheVariants.{SessionClosed, BufferTooSmall}
use Rattle.session_suite.specs.Suites.{suite_of}
use Rattle.session_suite.specs.declared.Suite.{Suite}
use Rattle.session.specs.declared.Session.{Session}
use Rattle.session_rules.specs.Valid.{valid}
use Rattle.session_bytes.specs.Saved.{session_size, Decoded, headed, session_from, decoded_to, unreadable, accepted, decode_suite, decode}
use Rattle.session_bytes.specs.Saving.{encoding}
use Rattle.session_bytes.specs.Answered.{answered, saving_answered, reading_answered}

pub saving_answered_lem : (s : Session) (room : ℕ) → saving_answered (encoding s room)
    ≡ (if valid s then if leb session_size room then answered 0 session_size else answered 6 session_size else answered 1 0)
unfolding encoding
saving_answered_lem s room = go (valid s) (leb session_size room)
  where
    go : (keeps enough : Bool)
        → saving_answered (if keeps then if enough then Ok tt else Err (BufferTooSmall session_size) else Err SessionClosed)
        ≡ (if keeps then if enough then answered 0 session_size else answered 6 session_size else answered 1 0)
    go true true = refl
    go true false = refl
    go false enough = refl

-- a reading that was done, or one that was not
abbrev Answers : Decoded → Type 0
Answers d =
    ((s : Session) × (d ≡ decoded_to s) × (reading_answered d ≡ answered 0 0))
    ⊎ ((d ≡ unreadable) × (reading_answered d ≡ answered 16 0))

pub reading_answered_lem : (b : Bytes) → Answers (decode b)
unfolding decode decode_suite accepted
reading_answered_lem b = at_header (headed b)
  where
    at_rules : (s : Session) (keeps : Bool) → Answers (if keeps then decoded_to s else unreadable)
    at_rules s true = inl (s, refl, refl)
    at_rules s false = inr (refl, refl)

    at_suite : (known : Option Suite) → Answers (decode_suite b known)
    at_suite (Some suite) = at_rules (session_from b suite) (valid (session_from b suite))
    at_suite None = inr (refl, refl)

    at_header : (right : Bool) → Answers (if right then decode_suite b (suite_of (get_or b 5 0)) else unreadable)
    at_header true = at_suite (suite_of (get_or b 5 0))
    at_header false = inr (refl, refl)
