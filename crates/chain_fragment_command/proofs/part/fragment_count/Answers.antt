-- `fragment_count` meets its contract: a fragment has 1 to 255 bytes.
use native.Mathlib.Omega.{arith}
use Rattle.chain_parts.proofs.Ceiling.{ceiling_is}
use Rattle.chain_command.specs.Fragment.{fragment_count}
use Rattle.chain_command.proofs.Sizes.{sized}
use Rattle.chain_fragment_command.proofs.part.fragment_count.Goals as goal

pub div_ceil-requires : goal.div_ceil-requires
div_ceil-requires c = omega (arith, (sized c.args.size c.requires.1).positive, c.fragment_size.ensures)

pub returns : goal.returns
unfolding fragment_count
returns c = rw (c.div_ceil.ensures, c.fragment_size.ensures) (ceiling_is c.args.n _ (sized c.args.size c.requires.1).positive)
