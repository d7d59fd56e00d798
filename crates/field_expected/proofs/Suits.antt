-- An object that is there suits where it may be there, and one that isn't where it isn't lacking.
use mathlib.Core.Path.{◌≡◌, refl}
use mathlib.Core.Bool.{true, false, not}
use Rattle.field_expected.specs.declared.Need.{Need}
use Rattle.field_expected.specs.declared.Need.TheVariants.{Must, May, MustNot}
use Rattle.field_expected.specs.Wanted.{may, lacks, suits}

suits_there : (need : Need) → suits need true ≡ may need
suits_there Must = refl
suits_there May = refl
suits_there MustNot = refl

suits_absent : (need : Need) → suits need false ≡ not (lacks need false)
suits_absent Must = refl
suits_absent May = refl
suits_absent MustNot = refl
