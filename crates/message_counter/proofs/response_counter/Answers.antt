-- `response_counter` meets its contract: the command's, with its first byte changed.
use mathlib.Core.Path.{sym, ap, ◌∙◌}
use mathlib.Core.List.{List, ◌∷◌}
use Prim.Native.Nat.{ℕ}
use lib.ListN.{drop, set}
use Rattle.message_counter.specs.Counter.{response_counter}
use Rattle.message_counter.proofs.CounterBytes.{counter_is}
use Rattle.message_counter.proofs.response_counter.Goals as goal

pub returns : goal.returns
unfolding response_counter
returns c =
    let e = counter_is c.args.i in
    ap (λ (l : List ℕ). set l 0 0x80) (c.command_counter-counter.ensures ∙ e) ∙ sym (ap (λ (l : List ℕ). 0x80 ∷ drop 1 l) e)
