-- `response_length` meets its contract: the sum of its objects' lengths.
use native.Mathlib.Omega.{arith}
use mathlib.Core.Path.{ap, ◌∙◌}
use Rattle.field_size.proofs.LengthBounds.{data_most, ciphertext_most}
use Rattle.field_size.specs.Lengths.{response_length, encrypted_data_length}
use Rattle.field_size.proofs.response_length.Goals as goal

pub encrypted_data_length-requires : goal.encrypted_data_length-requires
encrypted_data_length-requires c = omega (arith, c.ciphertext_length.ensures, ciphertext_most c.args.p c.requires)

pub overflow_add-result : goal.overflow_add-result
overflow_add-result c = record { fits = omega (arith, c.encrypted_data_length.ensures, c.ciphertext_length.ensures, data_most c.ciphertext_length.result, ciphertext_most c.args.p c.requires) }

pub overflow_add-result-2 : goal.overflow_add-result-2
overflow_add-result-2 c = record { fits = omega (arith, c.encrypted_data_length.ensures, c.ciphertext_length.ensures, data_most c.ciphertext_length.result, ciphertext_most c.args.p c.requires) }

pub returns : goal.returns
unfolding response_length
returns c = rw (c.encrypted_data_length.ensures ∙ ap encrypted_data_length c.ciphertext_length.ensures)
