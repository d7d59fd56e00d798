-- `command_mac` meets its contract: three parts, absorbed one after the other.
use borrow.Author.Rules.{rules}
use mathlib.Core.Path.{◌≡◌}
use lib.ListN.{length}
use Rattle.message_mac.specs.MacInput.{encoded_header, command_mac_input}
use Rattle.message_mac.proofs.MacInParts.{in_three_parts}
use Rattle.message_mac.proofs.command_mac.Goals as goal

pub returns : goal.returns
unfolding command_mac_input
returns c =
    let a = c.args in
    let n : length a.key.bytes ≡ 32 = search (rules, c.well_formed) in
    simp (c.finish.ensures, c.absorb.ensures, c.absorb-headed.ensures, c.absorb-begun.ensures, c.start.ensures, c.expanded-key.ensures, c.encoded_header.ensures)
    (in_three_parts a.key.suite a.key.bytes n a.mcv (encoded_header a.header) a.covered.now)
