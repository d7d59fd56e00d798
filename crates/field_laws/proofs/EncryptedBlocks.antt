-- Encrypted data as long as the data asks is whole blocks, up to a limit that is whole blocks too.
use mathlib.Core.Path.{◌≡◌}
use mathlib.Core.Bool.{Bool, true, false}
use Prim.Native.Nat.{ℕ, ◌+◌, ◌*◌, ◌/◌, ◌<◌}
use native.Mathlib.Omega.{arith}
use lib.Dec.{eqb}
use lib.ListN.{length}
use Rattle.octets.specs.Bytes.{Bytes}
use Rattle.std.specs.Prelude.{if◌then◌else◌}
use Rattle.field_padding.specs.Padding.{padded_length}
use Rattle.field_size.specs.Lengths.{ciphertext_length}
use Rattle.field_laws.specs.Written.{WholeBlocks}

pub encrypted_blocks : (blocks n : ℕ) (c : Bytes) → length c ≡ ciphertext_length n → n < 16 * blocks → WholeBlocks (16 * blocks) c
unfolding ciphertext_length padded_length
encrypted_blocks blocks n c e h = go (eqb n 0) e
  where
    go : (t : Bool) → length c ≡ (if t then 0 else 16 * (n / 16 + 1)) → WholeBlocks (16 * blocks) c
    go true e = (omega (arith, e), omega (arith, e))
    go false e = (omega (arith, e), omega (arith, e))
