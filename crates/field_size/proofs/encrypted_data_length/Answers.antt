-- `encrypted_data_length` meets its contract: nothing, or tag, length field, indicator byte and data.
use borrow.Author.Tests.{eq-eqb, ne_eqb}
use Prim.Native.Nat.{◌+◌}
use native.Mathlib.Omega.{arith}
use Rattle.field_ber_length.proofs.LengthForms.{length_field_most}
use Rattle.field_size.specs.Lengths.{encrypted_data_length}
use Rattle.field_size.proofs.encrypted_data_length.Goals as goal

pub returns-then-e-eq0 : goal.returns-then-e-eq0
unfolding encrypted_data_length
returns-then-e-eq0 c = rw (eq-eqb c.args.e 0 c.if-e-eq0.true)

pub overflow_add-result : goal.overflow_add-result
overflow_add-result c = record { fits = omega (arith, c.length_size.ensures, length_field_most (c.args.e + 1)) }

pub overflow_add-result-2 : goal.overflow_add-result-2
overflow_add-result-2 c = record { fits = omega (arith, c.length_size.ensures, length_field_most (c.args.e + 1)) }

pub returns : goal.returns
unfolding encrypted_data_length
returns c = rw (ne_eqb c.args.e 0 c.if-e-eq0.false, c.length_size.ensures)
