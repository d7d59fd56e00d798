-- Rules 8.2 to 8.5: the rules that a session value keeps. One that breaks them counts as closed.
use Rattle.std.specs.Prelude.{Bool, true, false, ◌&&◌, eqb, leb}
use Rattle.std.specs.Prelude.{if◌then◌else◌}
use Rattle.session.specs.declared.Phase.{Phase}
use Rattle.session.specs.declared.Phase.TheVariants.{Ready, Pending, Closed}
use Rattle.session.specs.declared.Session.{Session}
use Rattle.session_rules.specs.ZeroBytes.{all_zero, keys_end, keys_zero, mcvs_zero}

-- ready: count 0 needs both chaining values zero
-- pending: count 1 or more, and count 1 needs the response value zero
-- closed: all after the suite is zero
unfoldable pub keeps_phase : Session → Phase → Bool
keeps_phase s Ready = keys_end s && (if eqb s.count 0 then mcvs_zero s else true)
keeps_phase s Pending = keys_end s && leb 1 s.count && (if eqb s.count 1 then all_zero s.response_mcv else true)
keeps_phase s Closed = eqb s.count 0 && keys_zero s && mcvs_zero s

-- the count is at most 65,535
unfoldable pub valid : Session → Bool
valid s = leb s.count 65535 && keeps_phase s s.phase

abbrev pub is_open : Phase → Bool
is_open Ready = true
is_open Pending = true
is_open Closed = false

-- a session that calls are served with: not closed, and by the rules
unfoldable pub counts_as_open : Session → Bool
counts_as_open s = is_open s.phase && valid s
