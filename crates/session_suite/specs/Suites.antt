-- SP 800-73-4 Part 2, Table 14: the cipher suites.
use Rattle.std.specs.Prelude.{ℕ, eqb, Option, Some, None, if◌then◌else◌}
use Rattle.session_suite.specs.declared.Suite.{Suite}
use Rattle.session_suite.specs.declared.Suite.TheVariants.{Cs2, Cs7}

-- the bytes of each session key: AES-128 for CS2, AES-256 for CS7
abbrev pub key_length : Suite → ℕ
key_length Cs2 = 16
key_length Cs7 = 32

abbrev pub number : Suite → ℕ
number Cs2 = 2
number Cs7 = 7

-- the suite of that number
abbrev pub suite_of : ℕ → Option Suite
suite_of n = if eqb n 2 then Some Cs2 else (if eqb n 7 then Some Cs7 else None)
