-- `open_suite` meets its contract: keys that fit have room in 32 bytes.
use mathlib.Core.Path.{◌≡◌, sym, ◌∙◌}
use mathlib.Core.Bool.{Bool, true}
use Prim.Native.Nat.{ℕ, ◌≤◌}
use native.Mathlib.Omega.{arith}
use lib.ListN.{length}
use Rattle.session_suite.specs.Suites.{key_length}
use Rattle.session_suite.specs.StoredKeys.{Keys, keys, keys_fit}
use Rattle.session_suite.specs.declared.Suite.{Suite}
use Rattle.session_suite.proofs.StoredKeys.{key_length_most, fitting}
use Rattle.session.proofs.open_suite.Goals as goal

room : (suite : Suite) (n : ℕ) (k : Keys) (fit : Bool) → n ≡ key_length suite → fit ≡ keys_fit n k → fit ≡ true
    → (length k.enc ≤ 32) × (length k.mac ≤ 32) × (length k.rmac ≤ 32)
room suite n k fit h e t =
    let f = fitting n k (sym e ∙ t) in
    let m = key_length_most suite in
    (omega (arith, f.enc), omega (arith, f.mac), omega (arith, f.rmac))

pub stored-requires : goal.stored-requires
stored-requires c =
    let a = c.args in
    (room a.suite _ (keys a.enc.now a.mac.now a.rmac.now) _ c.key_length.ensures c.keys_fit.ensures c.if-keys_fit.true).0

pub stored-requires-then-keys_fit : goal.stored-requires-then-keys_fit
stored-requires-then-keys_fit c =
    let a = c.args in
    (room a.suite _ (keys a.enc.now a.mac.now a.rmac.now) _ c.key_length.ensures c.keys_fit.ensures c.if-keys_fit.true).1

pub stored-requires-then-keys_fit-2 : goal.stored-requires-then-keys_fit-2
stored-requires-then-keys_fit-2 c =
    let a = c.args in
    (room a.suite _ (keys a.enc.now a.mac.now a.rmac.now) _ c.key_length.ensures c.keys_fit.ensures c.if-keys_fit.true).2
