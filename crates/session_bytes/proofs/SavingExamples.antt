-- Sessions saved on either side of each refusal, computed.
use mathlib.Core.Path.{◌≡◌, refl}
use mathlib.Core.List.{[], ◌∷◌}
use Prim.Native.Nat.{◌-◌}
use Rattle.std.specs.Prelude.{Ok, Err}
use Rattle.octets.specs.Bytes.{zeros}
use Rattle.refusal.specs.declared.Refusal.TheVariants.{SessionClosed, BufferTooSmall}
use Rattle.session_suite.specs.declared.Suite.TheVariants.{Cs2, Cs7}
use Rattle.session.specs.Session.{closed_at, fresh}
use Rattle.session.specs.declared.Side.TheVariants.{Host, Card}
use Rattle.session.specs.declared.Phase.TheVariants.{Pending}
use Rattle.session.specs.declared.Session.{Session}
use Rattle.session_rules.specs.Valid.{keeps_phase, valid}
use Rattle.session_rules.specs.ZeroBytes.{all_zero, keys_end, keys_zero, mcvs_zero}
use Rattle.session_bytes.specs.Saved.{session_size}
use Rattle.session_bytes.specs.Answered.{answered, saving_answered}
use Rattle.session_bytes.specs.Saving.{encoding}

-- it waits for a response, and has counted no command
broken : Session
broken =
    record {
      side = Host;
      phase = Pending;
      suite = Cs2;
      count = 0;
      sk_enc = zeros 32;
      sk_mac = zeros 32;
      sk_rmac = zeros 32;
      command_mcv = zeros 16;
      response_mcv = zeros 16;
    }

new : Session
new = fresh Host Cs2 (zeros 32) (zeros 32) (zeros 32)

-- 1 comes before 6
broken_without_room : encoding broken 0 ≡ Err SessionClosed
unfolding encoding valid keeps_phase keys_end all_zero broken
broken_without_room = refl

room_one_byte_short : encoding new (session_size - 1) ≡ Err (BufferTooSmall session_size)
unfolding encoding valid keeps_phase keys_end mcvs_zero all_zero new
room_one_byte_short = refl

room_enough : encoding new session_size ≡ Ok tt
unfolding encoding valid keeps_phase keys_end mcvs_zero all_zero new
room_enough = refl

-- 1 is only for a session that breaks the rules
closed : encoding (closed_at Card Cs7) session_size ≡ Ok tt
unfolding encoding valid keeps_phase keys_zero mcvs_zero all_zero
closed = refl

-- number and length: 0 and 138, 6 and 138, 1
saving_numbers : saving_answered (encoding new 138) ∷ saving_answered (encoding new 137) ∷ saving_answered (encoding broken 138) ∷ []
    ≡ answered 0 138 ∷ answered 6 138 ∷ answered 1 0 ∷ []
unfolding encoding valid keeps_phase keys_end mcvs_zero all_zero new broken
saving_numbers = refl
