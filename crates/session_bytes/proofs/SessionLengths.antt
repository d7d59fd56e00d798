-- The lengths of a session's keys and chaining values: of a closed session, of one that was opened; and of the bytes of a session with them.
use mathlib.Core.Path.{◌≡◌, refl}
use mathlib.Core.Bool.{Bool, true, false}
use Prim.Native.Nat.{ℕ, ◌-◌}
use native.Mathlib.Omega.{arith}
use lib.ListN.{length, length-append, length-replicate}
use Rattle.octets.specs.Bytes.{Bytes, zeros}
use Rattle.session_suite.specs.Suites.{key_length, suite_of}
use Rattle.session_suite.specs.declared.Suite.{Suite}
use Rattle.std.specs.Prelude.{Option, Some, None, Ok}
use Rattle.session_suite.specs.StoredKeys.{stored, Keys, keys_fit}
use Rattle.session_suite.proofs.StoredKeys.{key_length_most, fitting}
use Rattle.session.specs.Session.{closed}
use Rattle.session.specs.Opening.{open_suite, opening}
use Rattle.session.specs.declared.Side.{Side}
use Rattle.session.specs.declared.Session.{Session}
use Rattle.session_bytes.specs.Saved.{session_size, encode}
use Rattle.session_bytes.specs.Lengths.{Lengths}
use Rattle.session_bytes.proofs.SavedParts.{length_encode}

pub closed_lengths : (s : Session) → Lengths (closed s)
closed_lengths s = record { enc = refl; mac = refl; rmac = refl; command = refl; response = refl }

never : {P : Type 0} → ◌≡◌ {A = ℕ} 0 1 → P
never z = let o : ⊥ = omega arith in absurd o

stored_long : (key : Bytes) (suite : Suite) → length key ≡ key_length suite → length (stored key) ≡ 32
stored_long key suite h = omega (arith, length-append key (zeros (32 - length key)), length-replicate {A = ℕ} (32 - length key) 0, h, key_length_most suite)

pub opening_lengths : (side : Side) (suite : ℕ) (k : Keys) → (opening side suite k).answer ≡ Ok tt → Lengths (opening side suite k).next
unfolding opening open_suite
opening_lengths side suite k = go (suite_of suite)
  where
    at_suite : (known : Suite) (fit : Bool) → keys_fit (key_length known) k ≡ fit
        → (open_suite side (Some known) k).answer ≡ Ok tt → Lengths (open_suite side (Some known) k).next
    at_suite known true f e =
        let l = fitting (key_length known) k f in
        rw f (record {
          enc = stored_long k.enc known l.enc;
          mac = stored_long k.mac known l.mac;
          rmac = stored_long k.rmac known l.rmac;
          command = refl;
          response = refl;
        })
    at_suite known false f e = let g = rw f at e in never (cc)

    go : (known : Option Suite) → (open_suite side known k).answer ≡ Ok tt → Lengths (open_suite side known k).next
    go (Some known) e = at_suite known (keys_fit (key_length known) k) refl e
    go None e = never (cc)

pub encode_long : (s : Session) → Lengths s → length (encode s) ≡ session_size
encode_long s l = length_encode s l.enc l.mac l.rmac l.command l.response
