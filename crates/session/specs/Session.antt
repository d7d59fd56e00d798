-- Rules 3.1, 3.2 and 3.4: a session as it is opened, closed, and where there is none.
use Rattle.octets.specs.Bytes.{Bytes, zeros}
use Rattle.session.specs.declared.Side.{Side}
use Rattle.session.specs.declared.Phase.TheVariants.{Ready, Closed}
use Rattle.session_suite.specs.declared.Suite.{Suite}
use Rattle.session_suite.specs.declared.Suite.TheVariants.{Cs2}
use Rattle.session.specs.declared.Session.{Session}

-- opened: count 0, two chaining values of 16 zero bytes, and ready
abbrev pub fresh : Side → Suite → Bytes → Bytes → Bytes → Session
fresh side suite enc mac rmac =
    record {
      phase = Ready;
      count = 0;
      command_mcv = zeros 16;
      response_mcv = zeros 16;
      side = side;
      suite = suite;
      sk_enc = enc;
      sk_mac = mac;
      sk_rmac = rmac;
    }

-- closed: keys, count and chaining values zero
abbrev pub closed_at : Side → Suite → Session
closed_at side suite =
    record {
      phase = Closed;
      count = 0;
      sk_enc = zeros 32;
      sk_mac = zeros 32;
      sk_rmac = zeros 32;
      command_mcv = zeros 16;
      response_mcv = zeros 16;
      side = side;
      suite = suite;
    }

-- side and suite stay
abbrev pub closed : Session → Session
closed s = closed_at s.side s.suite

-- what stands where there is no session, at 11 and 12; an answer with 16 has none
abbrev pub no_session : Side → Session
no_session side = closed_at side Cs2
