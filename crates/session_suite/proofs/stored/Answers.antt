-- `stored` meets its contract: the key is written over 32 zeros.
use mathlib.Core.Path.{ap, ◌∙◌}
use mathlib.Core.List.{◌++◌}
use lib.ListN.{length, drop}
use Rattle.octets.specs.Bytes.{Bytes, zeros}
use Rattle.octets.specs.Write.{over}
use Rattle.session_suite.proofs.StoredKeys.{over_zeros}
use Rattle.session_suite.proofs.stored.Goals as goal

pub returns : goal.returns
unfolding over
returns c =
    ap (λ (l : Bytes). l ++ drop (length c.args.key.now) (zeros 32)) c.copy_from_slice.ensures.after
    ∙ over_zeros c.args.key.now c.requires
