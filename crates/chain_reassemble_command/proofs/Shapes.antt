-- A well-formed APDU holds the data that its Lc counts.
use mathlib.Core.Path.{◌≡◌, refl}
use mathlib.Core.Bool.{Bool, true, false, ◌&&◌, ◌||◌}
use mathlib.Core.Logic.{◌⊎◌, inl, inr, ⊎_elim}
use Prim.Native.Nat.{◌+◌, ◌≤◌}
use native.Mathlib.Omega.{arith}
use borrow.Author.Tests.{eqb-true}
use lib.Dec.{eqb, leb}
use lib.ListN.{length, get_or}
use Rattle.octets.specs.Bytes.{Bytes}
use Rattle.octets.proofs.Tests.{both}
use Rattle.chain_command.specs.Apdu.{last_cla, chained_cla, cla, lc, is_chained, is_last, well_formed}

either : (a b : Bool) → (a || b) ≡ true → (a ≡ true) ⊎ (b ≡ true)
either true b e = inl refl
either false b e = inr e

chained_holds : (apdu : Bytes) → is_chained apdu ≡ true → 5 + lc apdu ≤ length apdu
unfolding is_chained
chained_holds apdu e =
    let right = both (eqb (cla apdu) chained_cla) (eqb (length apdu) (5 + lc apdu)) e in
    let size = eqb-true (length apdu) (5 + lc apdu) right.1 in
    omega arith

last_holds : (apdu : Bytes) → is_last apdu ≡ true → 5 + lc apdu ≤ length apdu
unfolding is_last
last_holds apdu e =
    let head = eqb (cla apdu) last_cla && eqb (length apdu) (6 + lc apdu) in
    let right = both (eqb (cla apdu) last_cla) (eqb (length apdu) (6 + lc apdu)) (both head (eqb (get_or apdu (5 + lc apdu) 0) 0x00) e).0 in
    let size = eqb-true (length apdu) (6 + lc apdu) right.1 in
    omega arith

-- it holds its data
pub holds_data : (apdu : Bytes) → well_formed apdu ≡ true → 5 + lc apdu ≤ length apdu
unfolding well_formed
holds_data apdu e = ⊎_elim (chained_holds apdu) (last_holds apdu) (either (is_chained apdu) (is_last apdu) (both (leb 1 (lc apdu) && leb (lc apdu) 255) (is_chained apdu || is_last apdu) e).1)
