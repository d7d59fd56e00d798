-- `is_shortest` meets its contract: the sizes are compared.
use Rattle.field_ber_length.specs.Length.{is_shortest}
use Rattle.field_ber_length.proofs.LengthField.is_shortest.Goals as goal

pub returns : goal.returns
unfolding is_shortest
returns c = rw c.length_size.ensures
