-- `expanded` meets its contract: the key stands at the start of 32 zero bytes.
use mathlib.Core.Path.{ap, ◌∙◌}
use Rattle.octets.proofs.Writing.{wrote_all}
use Rattle.aes_key_expansion.specs.ExpandedKey.{expanded_key}
use Rattle.primitives.proofs.expanded.Goals as goal

pub returns : goal.returns
returns c = c.new.ensures ∙ ap (expanded_key c.args.size) (wrote_all c.put_bytes.ensures)
