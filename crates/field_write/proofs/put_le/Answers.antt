-- `put_le` meets its contract: three bytes, or none.
use native.Mathlib.Omega.{arith}
use mathlib.Core.Path.{ap, ◌∙◌}
use lib.ListN.{length}
use Rattle.octets.proofs.Writing.{wrote_none}
use Rattle.field_write.specs.Objects.{le_object}
use Rattle.field_write.proofs.FieldLengths.{le_present, le_absent}
use Rattle.field_write.proofs.put_le.Goals as goal

pub put_bytes-requires : goal.put_bytes-requires
put_bytes-requires c = omega (arith, ap length (ap le_object c.if-le.true ∙ le_present))

pub returns-then-le : goal.returns-then-le
returns-then-le c = rw (c.if-le.true, le_present) c.put_bytes.ensures

pub returns : goal.returns
returns c = rw (c.if-le.false, le_absent) (wrote_none _ _)
