-- Keys of a suite's length, and the 32 bytes that a key is stored in. For opening, and for the rules that a session keeps.
use mathlib.Core.Path.{◌≡◌, refl, ap}
use mathlib.Core.Logic.{◌⊎◌, inl, inr}
use mathlib.Core.Bool.{true, ◌&&◌}
use mathlib.Core.List.{◌++◌}
use Prim.Native.Nat.{ℕ, ◌≤◌}
use native.Mathlib.Omega.{arith}
use borrow.Author.Tests.{eqb-true}
use lib.Dec.{eqb}
use lib.ListN.{length}
use Rattle.std.proofs.lemmas.List.{drop-replicate}
use Rattle.octets.specs.Bytes.{Bytes, zeros}
use Rattle.octets.specs.Write.{over}
use Rattle.octets.proofs.Tests.{both}
use Rattle.session_suite.specs.Suites.{key_length}
use Rattle.session_suite.specs.StoredKeys.{stored, Keys, keys_fit}
use Rattle.session_suite.specs.declared.Suite.{Suite}
use Rattle.session_suite.specs.declared.Suite.TheVariants.{Cs2, Cs7}

pub key_length_most : (suite : Suite) → key_length suite ≤ 32
key_length_most Cs2 = omega arith
key_length_most Cs7 = omega arith

pub key_size_lem : (suite : Suite) (key : Bytes) → length key ≡ key_length suite → (length key ≡ 16) ⊎ (length key ≡ 32)
key_size_lem Cs2 key e = inl e
key_size_lem Cs7 key e = inr e

-- the three lengths, where they fit
pub record Fitting (n : ℕ) (k : Keys) : Type 0 where
  pub enc : length k.enc ≡ n
  pub mac : length k.mac ≡ n
  pub rmac : length k.rmac ≡ n

pub fitting : (n : ℕ) (k : Keys) → keys_fit n k ≡ true → Fitting n k
unfolding keys_fit
fitting n k e =
    let first = both (eqb (length k.enc) n && eqb (length k.mac) n) (eqb (length k.rmac) n) e in
    let second = both (eqb (length k.enc) n) (eqb (length k.mac) n) first.0 in
    record {
      enc = eqb-true (length k.enc) n second.0;
      mac = eqb-true (length k.mac) n second.1;
      rmac = eqb-true (length k.rmac) n first.1;
    }

-- keys fit one suite only
pub one_suite : (s t : Suite) (k : Keys) → keys_fit (key_length s) k ≡ true → keys_fit (key_length t) k ≡ true → t ≡ s
one_suite Cs2 Cs2 k e f = refl
one_suite Cs2 Cs7 k e f = let z : ⊥ = omega (arith, (fitting 16 k e).enc, (fitting 32 k f).enc) in absurd z
one_suite Cs7 Cs2 k e f = let z : ⊥ = omega (arith, (fitting 32 k e).enc, (fitting 16 k f).enc) in absurd z
one_suite Cs7 Cs7 k e f = refl

-- a key written over 32 zeros
pub over_zeros : (key : Bytes) → length key ≤ 32 → over (zeros 32) key ≡ stored key
unfolding over
over_zeros key h = ap (λ (l : Bytes). key ++ l) (drop-replicate (length key) 32 0)
