-- Rule 3.3: each call is made at one side, in one phase.
use Rattle.std.specs.Prelude.{Bool, true, false, ◌&&◌}
use Rattle.session.specs.declared.Side.{Side}
use Rattle.session.specs.declared.Side.TheVariants.{Host, Card}
use Rattle.session.specs.declared.Phase.{Phase}
use Rattle.session.specs.declared.Phase.TheVariants.{Ready, Pending, Closed}

abbrev pub same_side : Side → Side → Bool
same_side Host Host = true
same_side Host Card = false
same_side Card Host = false
same_side Card Card = true

abbrev pub same_phase : Phase → Phase → Bool
same_phase Ready Ready = true
same_phase Ready Pending = false
same_phase Ready Closed = false
same_phase Pending Ready = false
same_phase Pending Pending = true
same_phase Pending Closed = false
same_phase Closed Ready = false
same_phase Closed Pending = false
same_phase Closed Closed = true

-- whether a call that is made at that side, in that phase, is in turn for a session whose own side and phase these are
unfoldable pub is_turn : Side → Phase → Side → Phase → Bool
is_turn side phase own current = same_side own side && same_phase current phase
