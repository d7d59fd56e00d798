-- `next` of `Reader` meets its contract: it moves behind an object, and a breach is not passed.
use mathlib.Core.Path.{◌≡◌, refl, sym, ap}
use native.Mathlib.Omega.{arith}
use Prim.Native.Nat.{ℕ}
use Rattle.std.specs.Prelude.{Result, Ok, Err, IsErr}
use Rattle.field_object.specs.declared.Breach.{Breach}
use Rattle.field_object.specs.declared.DataObject.{DataObject}
use Rattle.field_object.specs.Step.{index_after}
use Rattle.field_read.proofs.reader.Reader.next.Goals as goal

err_stays : (read : Result DataObject Breach) (at : ℕ) → IsErr read → index_after read at ≡ at
unfolding index_after
err_stays (Err b) at e = refl
err_stays (Ok d) at e = let z : ◌≡◌ {A = ℕ} 0 1 = cc in let o : ⊥ = omega arith in absurd o

pub returns-in_err-object-clause-reader : goal.returns-in_err-object-clause-reader
returns-in_err-object-clause-reader c =
    let self = c.args.self.now in
    ap (λ (i : ℕ). record { field = self.field; at = i }) (sym (err_stays c.from_residual.result self.at c.from_residual.ensures.0))

pub returns-clause-reader : goal.returns-clause-reader
unfolding index_after
returns-clause-reader c = refl
