-- The cipher under a session's key is the cipher under the schedule of its 32 bytes.
use mathlib.Core.Path.{◌≡◌, sym, ap, ◌∙◌}
use native.Mathlib.Omega.{arith}
use lib.ListN.{length, take}
use lib.Seq.{length-take-le}
use Rattle.octets.specs.Bytes.{Bytes}
use Rattle.aes_key_expansion.specs.declared.KeySize.{KeySize}
use Rattle.aes_key_expansion.specs.KeyExpansion.{schedule}
use Rattle.aes_key_expansion.proofs.KeyStart.{schedule_start}
use Rattle.aes.specs.Aes.{aes, inv_aes, ciph as scheduleCiph, inv_ciph as scheduleInvCiph}
use Rattle.session_suite.specs.StoredKeys.{key_in}
use Rattle.session_suite.specs.declared.Suite.{Suite}
use Rattle.session_suite.specs.declared.Suite.TheVariants.{Cs2, Cs7}
use Rattle.message_ciphers.specs.Aes.{size_of, ciph, inv_ciph}
use Rattle.message_key.specs.SessionKeys.{key_size}

-- the key's length tells its size
size_is : (suite : Suite) (key : Bytes) → length key ≡ 32 → size_of (key_in suite key) ≡ key_size suite
unfolding size_of
size_is Cs2 key h = let e : length (take 16 key) ≡ 16 = length-take-le 16 key (omega (arith, h)) in rw e
size_is Cs7 key h = let e : length (take 32 key) ≡ 32 = length-take-le 32 key (omega (arith, h)) in rw e

same_schedule : (suite : Suite) (key : Bytes) → schedule (key_size suite) (key_in suite key) ≡ schedule (key_size suite) key
same_schedule Cs2 key = schedule_start (key_size Cs2) key
same_schedule Cs7 key = schedule_start (key_size Cs7) key

module _ (suite : Suite) (key : Bytes) (h : length key ≡ 32) where
  pub session_ciph : (x : Bytes) → ciph (key_in suite key) x ≡ scheduleCiph (key_size suite) (schedule (key_size suite) key) x
  unfolding ciph aes
  session_ciph x =
      ap (λ (size : KeySize). scheduleCiph size (schedule size (key_in suite key)) x) (size_is suite key h)
      ∙ ap (λ w. scheduleCiph (key_size suite) w x) (same_schedule suite key)

  pub session_inv_ciph : (x : Bytes) → inv_ciph (key_in suite key) x ≡ scheduleInvCiph (key_size suite) (schedule (key_size suite) key) x
  unfolding inv_ciph inv_aes
  session_inv_ciph x =
      ap (λ (size : KeySize). scheduleInvCiph size (schedule size (key_in suite key)) x) (size_is suite key h)
      ∙ ap (λ w. scheduleInvCiph (key_size suite) w x) (same_schedule suite key)

  -- the same, of the functions
  pub same_cipher : scheduleCiph (key_size suite) (schedule (key_size suite) key) ≡ ciph (key_in suite key)
  same_cipher = λ i x. sym (session_ciph x) i

  pub same_inv_cipher : scheduleInvCiph (key_size suite) (schedule (key_size suite) key) ≡ inv_ciph (key_in suite key)
  same_inv_cipher = λ i x. sym (session_inv_ciph x) i
