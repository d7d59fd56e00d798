-- What holds of a fragment that passed its tests, and how long a possible chain is.
-- Assumes nothing.
use mathlib.Core.Path.{◌≡◌, refl}
use mathlib.Core.Bool.{Bool, true, false}
use Prim.Native.Nat.{ℕ, ◌+◌, ◌≤◌}
use native.Mathlib.Omega.{arith}
use borrow.Author.Tests.{leb-true, eqb-true}
use lib.Dec.{eqb, leb}
use lib.ListN.{length}
use Rattle.octets.specs.Bytes.{Bytes}
use Rattle.std.specs.Prelude.{if◌then◌else◌}
use Rattle.message_answer.specs.Answer.{gave}
use Rattle.message_answer.proofs.Required.{require_gave}
use Rattle.chain_command.specs.Apdu.{lc}
use Rattle.chain_command.specs.Reassembly.{empty, same_header, possible, total, reassembly_checks}
use Rattle.chain_command.specs.declared.CommandChain.{CommandChain}
use Rattle.chain_reassemble_command.proofs.Shapes.{holds_data}

-- the data stands in the APDU, and there is room for it
pub may_take : (c : CommandChain) (apdu : Bytes) (room : ℕ) → reassembly_checks c apdu room ≡ gave tt → (5 + lc apdu ≤ length apdu) × (total c apdu ≤ room)
unfolding reassembly_checks
may_take c apdu room e =
    let shaped = require_gave _ _ _ tt e in
    let whole = require_gave _ _ _ tt shaped.1 in
    let short = require_gave _ _ _ tt whole.1 in
    let fits = require_gave _ _ _ tt short.1 in
    (holds_data apdu shaped.0, leb-true (total c apdu) room fits.0)

pub possible_short : (c : CommandChain) → possible c ≡ true → c.len ≤ 2066
unfolding possible
possible_short c e = go (eqb c.len 0) refl e
  where
    go : (zero : Bool) → eqb c.len 0 ≡ zero → (if zero then same_header c.header empty.header else leb c.len 2066) ≡ true → c.len ≤ 2066
    go true z e = let n = eqb-true c.len 0 z in omega arith
    go false z e = leb-true c.len 2066 e
