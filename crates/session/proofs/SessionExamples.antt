-- Openings and closings, computed.
use mathlib.Core.Path.{◌≡◌, refl}
use mathlib.Core.List.{◌++◌}
use lib.ListN.{replicate}
use Rattle.octets.specs.Bytes.{zeros}
use Rattle.refusal.specs.declared.Refusal.TheVariants.{UnknownSuite, BadKeyLength}
use Rattle.session.specs.Session.{closed}
use Rattle.session_suite.specs.StoredKeys.{Keys, keys, keys_fit}
use Rattle.session.specs.Opening.{open_suite, opening}
use Rattle.session.specs.declared.Side.TheVariants.{Host, Card}
use Rattle.session.specs.declared.Phase.TheVariants.{Ready, Closed}
use Rattle.session_suite.specs.declared.Suite.TheVariants.{Cs2}
use Rattle.std.specs.Prelude.{Ok, Err}
use Rattle.session.specs.declared.Session.{Session}

of16 : Keys
of16 = keys (replicate 16 1) (replicate 16 2) (replicate 16 3)

opened : Session
opened = (opening Card 2 of16).next

record Computed : Type 0 where
  done : (opening Card 2 of16).answer ≡ Ok tt
  side_is : opened.side ≡ Card
  phase_is : opened.phase ≡ Ready
  suite_is : opened.suite ≡ Cs2
  count_is : opened.count ≡ 0
  enc_is : opened.sk_enc ≡ replicate 16 1 ++ zeros 16
  mac_is : opened.sk_mac ≡ replicate 16 2 ++ zeros 16
  rmac_is : opened.sk_rmac ≡ replicate 16 3 ++ zeros 16
  command_mcv_is : opened.command_mcv ≡ zeros 16
  response_mcv_is : opened.response_mcv ≡ zeros 16
  -- 11 comes before 12
  no_suite : (opening Host 3 (keys (zeros 1) (zeros 1) (zeros 1))).answer ≡ Err UnknownSuite
  no_key : (opening Host 7 of16).answer ≡ Err BadKeyLength
  closed_phase : (closed opened).phase ≡ Closed
  closed_count : (closed opened).count ≡ 0
  closed_enc : (closed opened).sk_enc ≡ zeros 32
  closed_mac : (closed opened).sk_mac ≡ zeros 32
  closed_rmac : (closed opened).sk_rmac ≡ zeros 32

computed : Computed
unfolding of16 opened opening open_suite keys_fit
computed =
    record {
      done = refl;
      side_is = refl;
      phase_is = refl;
      suite_is = refl;
      count_is = refl;
      enc_is = refl;
      mac_is = refl;
      rmac_is = refl;
      command_mcv_is = refl;
      response_mcv_is = refl;
      no_suite = refl;
      no_key = refl;
      closed_phase = refl;
      closed_count = refl;
      closed_enc = refl;
      closed_mac = refl;
      closed_rmac = refl;
    }
