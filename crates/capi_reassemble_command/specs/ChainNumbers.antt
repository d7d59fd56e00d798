-- A chain of command fragments as one number, for programs in C; 0 is the empty chain. Assumes nothing.
use Rattle.std.specs.Prelude.{ℕ, ◌+◌, ◌*◌, ◌/◌, ◌%◌}
use Rattle.apdu.specs.Apdu.{header}
use Rattle.chain_command.specs.declared.CommandChain.{CommandChain}

-- the length, and INS, P1 and P2
unfoldable pub chain_number : CommandChain → ℕ
chain_number c = c.len * 16777216 + c.header.ins * 65536 + c.header.p1 * 256 + c.header.p2

unfoldable pub chain_of : ℕ → CommandChain
chain_of n = record { len = n / 16777216; header = header (n / 65536 % 256) (n / 256 % 256) (n % 256) }
