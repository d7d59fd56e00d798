-- `put_four_byte_number` meets its contract: the library's four bytes are the definition's.
use Rattle.octets_numbers.proofs.Library.{bytes_of_four}
use Rattle.octets_numbers.proofs.put_four_byte_number.Goals as goal

pub returns : goal.returns
returns c = rw (← bytes_of_four c.args.n, ← c.to_be_bytes.ensures) c.put_bytes.ensures
