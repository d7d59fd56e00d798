-- `padded_length` meets its contract: the formula.
use borrow.Author.Rules.{rules}
use Rattle.field_padding.specs.Padding.{padded_length}
use Rattle.field_padding.proofs.padded_length.Goals as goal

pub returns : goal.returns
unfolding padded_length
returns c = search rules
