-- `key_size` meets its contract: one case for each length.
use borrow.Author.Tests.{eq-eqb, ne_eqb}
use native.Mathlib.Omega.{arith}
use Rattle.primitives.specs.Calls.{key_size}
use Rattle.primitives.proofs.key_size.Goals as goal

pub returns-in-16 : goal.returns-in-16
unfolding key_size
returns-in-16 c = simp (eq-eqb _ _ c.in-16.is)

pub returns-in-32 : goal.returns-in-32
unfolding key_size
returns-in-32 c = simp c.in-32.is

pub returns-in_default : goal.returns-in_default
unfolding key_size
returns-in_default c = simp (ne_eqb c.args.len 16 (λ e. omega (arith, e)), ne_eqb c.args.len 32 (λ e. omega (arith, e)))
