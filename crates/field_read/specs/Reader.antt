-- Rule 5.14: a reader, which keeps the caller's field and an index into it.
use Rattle.std.specs.Prelude.{ℕ, List, Result}
use Rattle.std.specs.Borrow.{Bor}
use Rattle.field_object.specs.declared.Breach.{Breach}
use Rattle.field_object.specs.declared.DataObject.{DataObject}
use Rattle.field_read.specs.declared.reader.Reader.{Reader}
use Rattle.field_object.specs.Step.{index_after}

abbrev pub opened : Bor (List ℕ) → ℕ → Reader
opened field at = record { field = field; at = at }

-- the same field, and the index behind what was read
abbrev pub moved : Reader → Result DataObject Breach → Reader
moved reader read = record { field = reader.field; at = index_after read reader.at }
