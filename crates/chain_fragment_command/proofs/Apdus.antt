-- A fragment's APDU, by whether it is the last: its bytes and its length.
-- Assumes nothing.
use mathlib.Core.Path.{◌≡◌}
use mathlib.Core.Bool.{Bool, true, false}
use mathlib.Core.List.{[], ◌∷◌, ◌++◌}
use Prim.Native.Nat.{◌+◌}
use native.Mathlib.Omega.{arith}
use lib.ListN.{length, length-append}
use Rattle.octets.specs.Bytes.{Bytes}
use Rattle.apdu.specs.declared.Header.{Header}
use Rattle.chain_command.specs.Apdu.{last_cla, chained_cla, command_apdu, fragment_apdu}

module _ (last : Bool) (h : Header) (d : Bytes) where
  pub apdu_last : last ≡ true → fragment_apdu last h d ≡ command_apdu last_cla h d ++ 0x00 ∷ []
  unfolding fragment_apdu
  apdu_last e = rw e

  pub apdu_chained : last ≡ false → fragment_apdu last h d ≡ command_apdu chained_cla h d
  unfolding fragment_apdu
  apdu_chained e = rw e

  pub length_apdu_last : last ≡ true → length (fragment_apdu last h d) ≡ 6 + length d
  length_apdu_last e = rw (apdu_last e) (simp length-append (omega arith))

  pub length_apdu_chained : last ≡ false → length (fragment_apdu last h d) ≡ 5 + length d
  length_apdu_chained e = rw (apdu_chained e) (omega arith)
