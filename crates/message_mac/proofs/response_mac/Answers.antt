-- `response_mac` meets its contract: two parts, absorbed one after the other.
use borrow.Author.Rules.{rules}
use mathlib.Core.Path.{◌≡◌}
use lib.ListN.{length}
use Rattle.message_mac.specs.MacInput.{response_mac_input}
use Rattle.message_mac.proofs.MacInParts.{in_two_parts}
use Rattle.message_mac.proofs.response_mac.Goals as goal

pub returns : goal.returns
unfolding response_mac_input
returns c =
    let a = c.args in
    let n : length a.key.bytes ≡ 32 = search (rules, c.well_formed) in
    simp (c.finish.ensures, c.absorb.ensures, c.absorb-chained.ensures, c.start.ensures, c.expanded-key.ensures)
    (in_two_parts a.key.suite a.key.bytes n a.mcv a.covered.now)
