-- `round_constant` meets its contract: the table follows the rule of the powers of x.
use mathlib.Core.Path.{ap}
use mathlib.Core.List.{[], ◌∷◌}
use Prim.Native.Nat.{ℕ, ◌-◌}
use native.Mathlib.Omega.{arith}
use Rattle.aes_key_expansion.proofs.Schedule.{rcon_rule}
use Rattle.aes_key_expansion.proofs.round_constant.Goals as goal

pub returns : goal.returns
returns c = ap (λ (b : ℕ). b ∷ 0 ∷ 0 ∷ 0 ∷ []) (rcon_rule (c.args.j - 1) (omega arith))
