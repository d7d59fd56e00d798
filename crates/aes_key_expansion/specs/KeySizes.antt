-- FIPS 197, 5: the key sizes.
use Rattle.std.specs.Prelude.{ℕ}
use Rattle.aes_key_expansion.specs.declared.KeySize.{KeySize}
use Rattle.aes_key_expansion.specs.declared.KeySize.TheVariants.{Aes128, Aes256}

-- Nk: the words of the key
abbrev pub nk : KeySize → ℕ
nk Aes128 = 4
nk Aes256 = 8

-- Nr: the rounds
abbrev pub nr : KeySize → ℕ
nr Aes128 = 10
nr Aes256 = 14
