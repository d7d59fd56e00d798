-- The MAC of a message absorbed in parts, under a session's key.
use mathlib.Core.Path.{◌≡◌, sym, ap, ◌∙◌}
use mathlib.Core.List.{◌++◌}
use lib.ListN.{length}
use Rattle.octets.specs.Bytes.{Bytes}
use Rattle.aes_key_expansion.specs.KeyExpansion.{schedule}
use Rattle.aes.specs.Aes.{ciph as scheduleCiph}
use Rattle.mode_cmac.specs.Cmac.{cmac}
use Rattle.mode_cmac.specs.Running.{start, absorb, finish}
use Rattle.mode_cmac.proofs.Theorems.{absorb_append, cmac_aes}
use Rattle.session_suite.specs.StoredKeys.{key_in}
use Rattle.session_suite.specs.declared.Suite.{Suite}
use Rattle.message_ciphers.specs.Aes.{ciph}
use Rattle.message_key.specs.SessionKeys.{key_size}
use Rattle.message_key.proofs.SessionCiphers.{same_cipher}

module _ (suite : Suite) (key : Bytes) (h : length key ≡ 32) where
  abbrev c : Bytes → Bytes
  c = scheduleCiph (key_size suite) (schedule (key_size suite) key)

  pub in_two_parts : (a b : Bytes) → finish c (absorb c (absorb c start a) b) ≡ cmac (ciph (key_in suite key)) (a ++ b)
  in_two_parts a b =
      ap (finish c) (sym (absorb_append c start a b))
      ∙ cmac_aes (key_size suite) (schedule (key_size suite) key) (a ++ b)
      ∙ ap (λ (f : Bytes → Bytes). cmac f (a ++ b)) (same_cipher suite key h)

  pub in_three_parts : (a b d : Bytes) → finish c (absorb c (absorb c (absorb c start a) b) d) ≡ cmac (ciph (key_in suite key)) (a ++ b ++ d)
  in_three_parts a b d = ap (λ s. finish c (absorb c s d)) (sym (absorb_append c start a b)) ∙ in_two_parts (a ++ b) d
