use mathlib.Core.Path.{◌≡◌}
use Prim.Native.Nat.{ℕ, ◌+◌, ◌-◌, ◌≤◌}
use lib.ListN.{length}
use Rattle.field_read.specs.Field.{walk, read_field}
use Rattle.field_read.proofs.read_field.Given as goal

abbrev pub invariant-loop-reader : goal.invariant-loop-reader
invariant-loop-reader l =
    (k : ℕ) × (4 ≤ k + l.place) × (l.place ≤ 3) × (l.reader.field.now ≡ l.field)
    × (walk k l.wanted l.field l.objects l.place l.reader.at ≡ read_field l.wanted l.field)

abbrev pub decreases-loop-reader : goal.decreases-loop-reader
decreases-loop-reader l = length l.field - l.reader.at
