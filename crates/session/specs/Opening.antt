-- Rule 2.5: opening, one call for each side, 11 before 12.
use Rattle.std.specs.Prelude.{ℕ, Option, Some, None, Ok, Err, if◌then◌else◌}
use Rattle.refusal.specs.declared.Answered.{Answered}
use Rattle.refusal.specs.declared.Refusal.{Refusal}
use Rattle.refusal.specs.declared.Refusal.TheVariants.{UnknownSuite, BadKeyLength}
use Rattle.session_suite.specs.Suites.{key_length, suite_of}
use Rattle.session_suite.specs.StoredKeys.{Keys, keys_fit, stored}
use Rattle.session.specs.Session.{fresh, no_session}
use Rattle.session.specs.declared.Side.{Side}
use Rattle.session_suite.specs.declared.Suite.{Suite}
use Rattle.session.specs.declared.Session.{Session}

-- whether the session was opened, and the session; where it was not, what stands for none
abbrev pub Opened : Type 0
Opened = Answered (Unit {0}) Session

abbrev pub not_opened : Side → Refusal → Opened
not_opened side refusal = record { answer = Err refusal; next = no_session side }

unfoldable pub open_suite : Side → Option Suite → Keys → Opened
open_suite side (Some suite) keys =
    if keys_fit (key_length suite) keys
    then record { answer = Ok tt; next = fresh side suite (stored keys.enc) (stored keys.mac) (stored keys.rmac) }
    else not_opened side BadKeyLength
open_suite side None keys = not_opened side UnknownSuite

unfoldable pub opening : Side → ℕ → Keys → Opened
opening side suite keys = open_suite side (suite_of suite) keys
