-- `made::whole` meets its contract: the field ends within the array of 274 bytes, so that its part has as many bytes as the end says.
use mathlib.Core.Path.{sym}
use native.Mathlib.Omega.{arith}
use lib.Seq.{length-take-le}
use Rattle.test_damaged_fields.proofs.made.whole.Goals as goal

pub slice_bounds-command-end : goal.slice_bounds-command-end
slice_bounds-command-end g c = sym (length-take-le c.put_bytes-end.result c.put_bytes-end.new.out (omega arith))
