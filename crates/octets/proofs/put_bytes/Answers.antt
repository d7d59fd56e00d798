-- `put_bytes` meets its contract: before each turn the first i bytes of src are written.
use mathlib.Core.Path.{refl, ap, ◌∙◌}
use Prim.Native.Nat.{◌+◌}
use native.Mathlib.Omega.{arith}
use lib.ListN.{set, get_or, length-set}
use mathlib.Core.List.{List}
use Prim.Native.Nat.{ℕ}
use Rattle.octets.proofs.Writing.{put_none, put_more, put_all}
use Rattle.octets.proofs.put_bytes.Goals as goal

pub loop-i-init : goal.loop-i-init
loop-i-init c = (put_none c.args.out.now c.args.at c.args.src.now, refl)

pub loop-i-preserved : goal.loop-i-preserved
loop-i-preserved c =
    let a = c.args in (
      ap (λ (l : List ℕ). set l (a.at + c.loop-i.i) (get_or a.src.now c.loop-i.i 0)) c.loop-i.invariant.0
          ∙ put_more a.out.now a.at a.src.now c.loop-i.i (omega arith) (omega arith),
      simp length-set c.loop-i.invariant.1,
    )

pub returns : goal.returns
returns c =
    let a = c.args in
    record { end = refl; bytes = c.loop-i.invariant.0 ∙ put_all a.out.now a.at a.src.now c.loop-i.i (omega arith) (omega arith) }
