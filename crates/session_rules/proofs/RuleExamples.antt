-- Sessions on either side of each rule, computed.
use mathlib.Core.Path.{◌≡◌, refl}
use mathlib.Core.Bool.{true, false}
use mathlib.Core.List.{◌∷◌, ◌++◌}
use Prim.Native.Nat.{ℕ}
use Rattle.octets.specs.Bytes.{Bytes, zeros}
use Rattle.session.specs.declared.Side.{Side}
use Rattle.session.specs.declared.Side.TheVariants.{Host, Card}
use Rattle.session_suite.specs.declared.Suite.{Suite}
use Rattle.session_suite.specs.declared.Suite.TheVariants.{Cs2, Cs7}
use Rattle.session.specs.declared.Phase.{Phase}
use Rattle.session.specs.declared.Phase.TheVariants.{Ready, Pending, Closed}
use Rattle.session.specs.declared.Session.{Session}
use Rattle.session_rules.specs.Valid.{keeps_phase, valid}
use Rattle.session_rules.specs.ZeroBytes.{all_zero, keys_end, keys_zero, mcvs_zero}

abbrev session_of : Side → Phase → ℕ → Bytes → Bytes → Session
session_of side phase count command response =
    record {
      side = side;
      phase = phase;
      suite = Cs2;
      count = count;
      sk_enc = zeros 32;
      sk_mac = zeros 32;
      sk_rmac = zeros 32;
      command_mcv = command;
      response_mcv = response;
    }

abbrev session : Phase → ℕ → Bytes → Bytes → Session
session = session_of Host

-- keys as given, and nothing counted or chained
abbrev keyed : Suite → Phase → Bytes → Bytes → Bytes → Session
keyed suite phase enc mac rmac =
    record {
      side = Host;
      phase = phase;
      suite = suite;
      count = 0;
      sk_enc = enc;
      sk_mac = mac;
      sk_rmac = rmac;
      command_mcv = zeros 16;
      response_mcv = zeros 16;
    }

-- one byte that is not zero, at index 16
long : Bytes
long = zeros 16 ++ 1 ∷ zeros 15

some : Bytes
some = 1 ∷ zeros 15

-- ---- the count, ready, pending, closed, and keys that are too long
count_65535 : valid (session Ready 65535 some some) ≡ true
unfolding valid keeps_phase keys_end all_zero
count_65535 = refl

count_65536 : valid (session Ready 65536 some some) ≡ false
unfolding valid
count_65536 = refl

ready_at_0 : valid (session Ready 0 (zeros 16) (zeros 16)) ≡ true
unfolding valid keeps_phase keys_end mcvs_zero all_zero
ready_at_0 = refl

command_value_at_0 : valid (session Ready 0 some (zeros 16)) ≡ false
unfolding valid keeps_phase keys_end mcvs_zero all_zero some
command_value_at_0 = refl

response_value_at_0 : valid (session Ready 0 (zeros 16) some) ≡ false
unfolding valid keeps_phase keys_end mcvs_zero all_zero some
response_value_at_0 = refl

pending_at_0 : valid (session Pending 0 (zeros 16) (zeros 16)) ≡ false
unfolding valid keeps_phase keys_end all_zero
pending_at_0 = refl

pending_at_1 : valid (session Pending 1 some (zeros 16)) ≡ true
unfolding valid keeps_phase keys_end all_zero
pending_at_1 = refl

response_value_at_1 : valid (session Pending 1 some some) ≡ false
unfolding valid keeps_phase keys_end all_zero some
response_value_at_1 = refl

response_value_at_2 : valid (session Pending 2 some some) ≡ true
unfolding valid keeps_phase keys_end all_zero
response_value_at_2 = refl

closed_with_a_count : valid (session Closed 1 (zeros 16) (zeros 16)) ≡ false
unfolding valid keeps_phase
closed_with_a_count = refl

closed_with_a_chaining_value : valid (session Closed 0 (zeros 16) some) ≡ false
unfolding valid keeps_phase keys_zero mcvs_zero all_zero some
closed_with_a_chaining_value = refl

closed_with_a_command_chaining_value : valid (session Closed 0 some (zeros 16)) ≡ false
unfolding valid keeps_phase keys_zero mcvs_zero all_zero some
closed_with_a_command_chaining_value = refl

-- the rules are the card's too
response_value_at_1_of_a_card : valid (session_of Card Pending 1 some some) ≡ false
unfolding valid keeps_phase keys_end all_zero some
response_value_at_1_of_a_card = refl

long_sk_enc_of_cs2 : valid (keyed Cs2 Ready long (zeros 32) (zeros 32)) ≡ false
unfolding valid keeps_phase keys_end all_zero long
long_sk_enc_of_cs2 = refl

long_sk_mac_of_cs2 : valid (keyed Cs2 Ready (zeros 32) long (zeros 32)) ≡ false
unfolding valid keeps_phase keys_end all_zero long
long_sk_mac_of_cs2 = refl

long_sk_rmac_of_cs2 : valid (keyed Cs2 Ready (zeros 32) (zeros 32) long) ≡ false
unfolding valid keeps_phase keys_end all_zero long
long_sk_rmac_of_cs2 = refl

long_keys_of_cs7 : valid (keyed Cs7 Ready long long long) ≡ true
unfolding valid keeps_phase keys_end mcvs_zero all_zero long
long_keys_of_cs7 = refl

closed_with_sk_enc : valid (keyed Cs7 Closed long (zeros 32) (zeros 32)) ≡ false
unfolding valid keeps_phase keys_zero all_zero long
closed_with_sk_enc = refl

closed_with_sk_mac : valid (keyed Cs7 Closed (zeros 32) long (zeros 32)) ≡ false
unfolding valid keeps_phase keys_zero all_zero long
closed_with_sk_mac = refl

closed_with_sk_rmac : valid (keyed Cs7 Closed (zeros 32) (zeros 32) long) ≡ false
unfolding valid keeps_phase keys_zero all_zero long
closed_with_sk_rmac = refl
