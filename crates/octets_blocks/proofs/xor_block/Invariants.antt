-- Before each turn the first i sums are stored.
use Rattle.std.proofs.Common.{◌≡◌, ℕ, length, take, get_or}
use Rattle.octets.specs.Bytes.{Bytes, ◌⊕◌, tabulate}
use Rattle.octets_blocks.proofs.xor_block.Given as goal

abbrev pub sum : Bytes → Bytes → ℕ → ℕ
sum a b i = get_or a i 0 ⊕ get_or b i 0

abbrev pub invariant-loop-i : goal.invariant-loop-i
invariant-loop-i l = (length l.block ≡ 16) × (take l.i l.block ≡ tabulate l.i (sum l.a l.b))
