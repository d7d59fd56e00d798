-- The arrays of a session hold its keys: bytes, as many as its suite asks.
use mathlib.Core.Path.{◌≡◌}
use Prim.Native.Nat.{ℕ, ◌<◌}
use native.Mathlib.Omega.{arith}
use mir.Syntax.{w8}
use mir.Val.{Fits}
use lib.ListN.{length, get_or}
use lib.Seq.{length-take-le, get_or-take}
use Rattle.octets.specs.Bytes.{Bytes}
use Rattle.session_suite.specs.Suites.{key_length}
use Rattle.session_suite.specs.StoredKeys.{key_in}
use Rattle.session_suite.proofs.StoredKeys.{key_length_most, key_size_lem}
use Rattle.session_suite.specs.declared.Suite.{Suite}
use Rattle.session.specs.declared.Session.{Session}
use Rattle.message_ciphers.specs.Ciphers.{IsKey}
use Rattle.message_protocol.specs.HonestDelivery.{Keyed}

of_suite : (suite : Suite) (key : Bytes) → length key ≡ 32 → ((i : ℕ) → get_or key i 0 < 256) → IsKey (key_in suite key)
of_suite suite key size fits =
    let n = length-take-le (key_length suite) key (omega (arith, key_length_most suite, size)) in
    record {
      bytes = λ i l. omega (arith, get_or-take (key_length suite) key i 0 (omega (arith, l, n)), fits i);
      size = key_size_lem suite (key_in suite key) n;
    }

pub keys_typed : (s : Session)
    → length s.sk_enc ≡ 32 → length s.sk_mac ≡ 32 → length s.sk_rmac ≡ 32
    → ((i : ℕ) → get_or s.sk_enc i 0 < 256) → ((i : ℕ) → get_or s.sk_mac i 0 < 256) → ((i : ℕ) → get_or s.sk_rmac i 0 < 256) → Keyed s
keys_typed s e m r fe fm fr =
    record {
      enc = of_suite s.suite s.sk_enc e fe;
      mac = of_suite s.suite s.sk_mac m fm;
      rmac = of_suite s.suite s.sk_rmac r fr;
    }

-- by what the types of a session's fields say
pub keyed_by_types : (s : Session)
    → length s.sk_enc ≡ 32 → length s.sk_mac ≡ 32 → length s.sk_rmac ≡ 32
    → ((i : ℕ) → Fits w8 (get_or s.sk_enc i 0)) → ((i : ℕ) → Fits w8 (get_or s.sk_mac i 0)) → ((i : ℕ) → Fits w8 (get_or s.sk_rmac i 0)) → Keyed s
keyed_by_types s e m r fe fm fr = keys_typed s e m r (λ i. (fe i).fits) (λ i. (fm i).fits) (λ i. (fr i).fits)
