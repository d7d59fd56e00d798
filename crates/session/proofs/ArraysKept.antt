-- A session's arrays keep their lengths and hold bytes: after opening, and closed.
use mathlib.Core.Path.{◌≡◌, refl}
use mathlib.Core.Bool.{Bool, true, false}
use Prim.Native.Nat.{ℕ, ◌-◌, ◌≤◌}
use native.Mathlib.Omega.{arith}
use lib.ListN.{length, length-append, length-replicate}
use Rattle.octets.specs.Bytes.{Bytes, IsBytes, zeros}
use Rattle.octets.proofs.ByteStrings.{bytes_append, bytes_zeros}
use Rattle.session_suite.specs.Suites.{key_length, suite_of}
use Rattle.session.specs.Session.{closed_at}
use Rattle.session_suite.specs.StoredKeys.{stored, Keys, keys_fit, KeysOfBytes}
use Rattle.session.specs.Opening.{open_suite, opening}
use Rattle.session.specs.Arrays.{Block, Arrays}
use Rattle.session.specs.declared.Side.{Side}
use Rattle.session_suite.specs.declared.Suite.{Suite}
use Rattle.std.specs.Prelude.{Option, Some, None}
use Rattle.session_suite.proofs.StoredKeys.{key_length_most, fitting}

zero_block : (n : ℕ) → Block n (zeros n)
zero_block n = record { size = length-replicate n 0; bytes = bytes_zeros n }

stored_block : (key : Bytes) → length key ≤ 32 → IsBytes key → Block 32 (stored key)
stored_block key h b =
    let rest = zero_block (32 - length key) in
    record {
      size = omega (arith, length-append key (zeros (32 - length key)), rest.size);
      bytes = bytes_append key (zeros (32 - length key)) b rest.bytes;
    }

pub closed_at_arrays : (side : Side) (suite : Suite) → Arrays (closed_at side suite)
closed_at_arrays side suite =
    record { enc = zero_block 32; mac = zero_block 32; rmac = zero_block 32; command = zero_block 16; response = zero_block 16 }

-- refused or not
pub opening_arrays : (side : Side) (suite : ℕ) (k : Keys) → KeysOfBytes k → Arrays (opening side suite k).next
unfolding opening open_suite
opening_arrays side suite k b = go (suite_of suite)
  where
    at_suite : (known : Suite) (fit : Bool) → keys_fit (key_length known) k ≡ fit → Arrays (open_suite side (Some known) k).next
    at_suite known true e =
        let f = fitting (key_length known) k e in
        let m = key_length_most known in
        rw e (record {
          enc = stored_block k.enc (omega (arith, f.enc)) b.enc;
          mac = stored_block k.mac (omega (arith, f.mac)) b.mac;
          rmac = stored_block k.rmac (omega (arith, f.rmac)) b.rmac;
          command = zero_block 16;
          response = zero_block 16;
        })
    at_suite known false e = rw e (closed_at_arrays side _)

    go : (known : Option Suite) → Arrays (open_suite side known k).next
    go (Some known) = at_suite known (keys_fit (key_length known) k) refl
    go None = closed_at_arrays side _
