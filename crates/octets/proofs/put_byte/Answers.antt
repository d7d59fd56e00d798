-- `put_byte` meets its contract: one element is set.
use borrow.Author.Rules.{rules}
use Rattle.octets.proofs.Writing.{set_put}
use Rattle.octets.proofs.put_byte.Goals as goal

pub returns : goal.returns
returns c = record { end = search rules; bytes = set_put c.args.out.now c.args.at c.args.b c.requires }
