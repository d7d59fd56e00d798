-- Rule 3.3: a session after a command and after its response.
use Rattle.std.specs.Prelude.{◌+◌}
use Rattle.octets.specs.Bytes.{Bytes}
use Rattle.session.specs.declared.Phase.TheVariants.{Ready, Pending}
use Rattle.session.specs.declared.Session.{Session}

-- a command wrapped, at the host, or accepted, at the card: counted, and outstanding
abbrev pub command_taken : Session → Bytes → Session
command_taken s mcv =
    record {
      phase = Pending;
      count = s.count + 1;
      command_mcv = mcv;
      response_mcv = s.response_mcv;
      side = s.side;
      suite = s.suite;
      sk_enc = s.sk_enc;
      sk_mac = s.sk_mac;
      sk_rmac = s.sk_rmac;
    }

-- its response wrapped, at the card, or accepted, at the host: ready again
abbrev pub response_taken : Session → Bytes → Session
response_taken s mcv =
    record {
      phase = Ready;
      response_mcv = mcv;
      count = s.count;
      command_mcv = s.command_mcv;
      side = s.side;
      suite = s.suite;
      sk_enc = s.sk_enc;
      sk_mac = s.sk_mac;
      sk_rmac = s.sk_rmac;
    }
