-- `command_counter` meets its contract: the library's bytes of a number are the definition's.
use mathlib.Core.Path.{sym, ap, ◌∙◌}
use Rattle.std.specs.Int.{w128, to_be_bytes}
use Rattle.message_counter.proofs.CounterBytes.{counter_is}
use Rattle.message_counter.proofs.command_counter.Goals as goal

pub returns : goal.returns
returns c = c.to_be_bytes.ensures ∙ ap (to_be_bytes w128) c.from.ensures ∙ sym (counter_is c.args.i)
