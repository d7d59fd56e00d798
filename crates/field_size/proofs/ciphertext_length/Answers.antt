-- `ciphertext_length` meets its contract: no data, or the padded length.
use borrow.Author.Tests.{eq-eqb, ne_eqb}
use Rattle.field_size.specs.Lengths.{ciphertext_length}
use Rattle.field_size.proofs.ciphertext_length.Goals as goal

pub returns-then-p-eq0 : goal.returns-then-p-eq0
unfolding ciphertext_length
returns-then-p-eq0 c = rw (eq-eqb c.args.p 0 c.if-p-eq0.true)

pub returns : goal.returns
unfolding ciphertext_length
returns c = rw (ne_eqb c.args.p 0 c.if-p-eq0.false) c.padded_length.ensures
