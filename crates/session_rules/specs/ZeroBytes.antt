-- Rules 8.4 and 8.5: which bytes of a session value are zero.
use Rattle.std.specs.Prelude.{Bool, ◌&&◌, eqb, drop}
use Rattle.std.specs.List.{list_all}
use Rattle.octets.specs.Bytes.{Bytes}
use Rattle.session_suite.specs.Suites.{key_length}
use Rattle.session.specs.declared.Session.{Session}

unfoldable pub all_zero : Bytes → Bool
all_zero bytes = list_all (λ b. eqb b 0) bytes

-- a key of the suite's length, and zeros behind it
unfoldable pub keys_end : Session → Bool
keys_end s =
    all_zero (drop (key_length s.suite) s.sk_enc)
    && all_zero (drop (key_length s.suite) s.sk_mac)
    && all_zero (drop (key_length s.suite) s.sk_rmac)

unfoldable pub keys_zero : Session → Bool
keys_zero s = all_zero s.sk_enc && all_zero s.sk_mac && all_zero s.sk_rmac

unfoldable pub mcvs_zero : Session → Bool
mcvs_zero s = all_zero s.command_mcv && all_zero s.response_mcv
