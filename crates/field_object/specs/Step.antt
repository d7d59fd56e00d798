-- A reader's index behind what it read (rule 5.14).
use Rattle.std.specs.Prelude.{ℕ, Result, Ok, Err}
use Rattle.field_object.specs.declared.Breach.{Breach}
use Rattle.field_object.specs.declared.DataObject.{DataObject}

-- behind an object; a breach is not passed
unfoldable pub index_after : Result DataObject Breach → ℕ → ℕ
index_after (Ok d) at = d.next
index_after (Err b) at = at
