-- SP 800-73-4 Part 2, Table 14: the AES of each cipher suite.
use Rattle.session_suite.specs.declared.Suite.{Suite}
use Rattle.session_suite.specs.declared.Suite.TheVariants.{Cs2, Cs7}
use Rattle.aes_key_expansion.specs.declared.KeySize.{KeySize}
use Rattle.aes_key_expansion.specs.declared.KeySize.TheVariants.{Aes128, Aes256}

abbrev pub key_size : Suite → KeySize
key_size Cs2 = Aes128
key_size Cs7 = Aes256
