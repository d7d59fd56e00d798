-- `two_byte_number_at` meets its contract: the library's number in those bytes is the definition's.
use Rattle.std.proofs.Common.{rules, ap, ◌∙◌}
use Rattle.octets_numbers.specs.BigEndian.{number_in}
use Rattle.octets_numbers.proofs.Library.{two_bytes}
use Rattle.octets_numbers.proofs.two_byte_number_at.Goals as goal

pub returns : goal.returns
returns c = c.from.ensures ∙ c.from_be_bytes.ensures ∙ two_bytes c.array_at.result (search rules) ∙ ap number_in c.array_at.ensures
