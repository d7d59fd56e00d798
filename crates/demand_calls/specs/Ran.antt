-- A call that ran: a function's arguments, its result and what its references hold at exit, of which the function's
-- contract holds (`Learnt`, which Rattle generates from the contract and proves of the code).
use Rattle.std.specs.Prelude.{List, ℕ}
use contract.Lifetimes.{Lfts}
use denote.Triple.Clauses.{AtExit}
use borrow.Fn.Kinds.{ParamKind, ResultKind, Dens, ended_of}

-- by the number of lifetimes, the kinds of the parameters and of the result, the result's type, and the contract
pub record Ran (n : ℕ) (ps : List (ParamKind n)) (r : ResultKind n) (R : Type 0)
    (Learnt : (κs : Lfts n) → Dens κs ps → R → AtExit (ended_of n ps r) κs → Type 0) : Type 0 where
  pub κs : Lfts n
  pub args : Dens κs ps
  pub result : R
  pub exit : AtExit (ended_of n ps r) κs
  pub met : Learnt κs args result exit
