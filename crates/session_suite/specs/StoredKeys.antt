-- The three session keys, and the 32 bytes that each is stored in.
use Rattle.std.specs.Prelude.{Bool, ◌&&◌, ◌++◌, ℕ, ◌-◌, eqb, length, take}
use Rattle.octets.specs.Bytes.{Bytes, IsBytes, zeros}
use Rattle.session_suite.specs.Suites.{key_length}
use Rattle.session_suite.specs.declared.Suite.{Suite}

-- the three session keys, as they are handed in
pub record Keys : Type 0 where
  pub enc : Bytes
  pub mac : Bytes
  pub rmac : Bytes

abbrev pub keys : Bytes → Bytes → Bytes → Keys
keys enc mac rmac = record { enc = enc; mac = mac; rmac = rmac }

-- each has the suite's length
unfoldable pub keys_fit : ℕ → Keys → Bool
keys_fit n keys = eqb (length keys.enc) n && eqb (length keys.mac) n && eqb (length keys.rmac) n

-- what the type of the keys says: they hold bytes
pub record KeysOfBytes (k : Keys) : Type 0 where
  pub enc : IsBytes k.enc
  pub mac : IsBytes k.mac
  pub rmac : IsBytes k.rmac

-- a key in its 32 bytes, and the key in them
abbrev pub stored : Bytes → Bytes
stored key = key ++ zeros (32 - length key)

abbrev pub key_in : Suite → Bytes → Bytes
key_in suite bytes = take (key_length suite) bytes
