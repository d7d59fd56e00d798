-- `length_size` meets its contract: one case for each form.
use mathlib.Core.Path.{ap, sym}
use native.Mathlib.Omega.{arith}
use lib.ListN.{length}
use Rattle.field_ber_length.proofs.LengthForms.{one_byte, two_bytes, three_bytes}
use Rattle.field_ber_length.proofs.length_size.Goals as goal

pub returns-in-0-to-127 : goal.returns-in-0-to-127
returns-in-0-to-127 c = sym (ap length (one_byte c.args.n (omega arith)))

pub returns-in-0-to-255 : goal.returns-in-0-to-255
returns-in-0-to-255 c = sym (ap length (two_bytes c.args.n (omega arith) (omega arith)))

pub returns-in_default : goal.returns-in_default
returns-in_default c = sym (ap length (three_bytes c.args.n (omega arith)))
