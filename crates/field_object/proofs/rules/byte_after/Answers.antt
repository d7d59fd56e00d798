-- `byte_after` meets its contract: past the end the byte is 0.
use mathlib.Core.Path.{sym}
use Prim.Native.Nat.{◌+◌, ◌≤◌}
use native.Mathlib.Omega.{arith}
use lib.ListN.{length, get_or-eq_default}
use Rattle.field_object.proofs.rules.byte_after.Goals as goal

pub returns : goal.returns
returns c =
    let a = c.args in
    let h : length a.bytes.now ≤ a.at + 1 = omega arith in
    sym (get_or-eq_default a.bytes.now 0 h)
