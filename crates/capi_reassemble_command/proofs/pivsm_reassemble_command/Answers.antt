-- `pivsm_reassemble_command` meets its contract: the chain that the number stands for, and the number of the next.
use mathlib.Core.Path.{sym, subst}
use Prim.Native.Nat.{◌≤◌}
use lib.ListN.{length}
use Rattle.chain_command.specs.Reassembly.{Reassembly}
use Rattle.capi_reassemble_command.proofs.ChainNumbers.{left_short}
use Rattle.capi_reassemble_command.proofs.pivsm_reassemble_command.Goals as goal

pub chain_number-requires : goal.chain_number-requires
chain_number-requires c =
    let a = c.args in
    subst (λ (r : Reassembly). r.next.len ≤ 2066) (sym c.reassemble_command-result.ensures.result)
    (left_short c.chain_of-held.result a.apdu.now (length a.field.now))
