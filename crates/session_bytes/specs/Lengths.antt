-- The lengths of a session's keys and chaining values, as the session's type has them.
use Rattle.std.specs.Prelude.{◌≡◌, length}
use Rattle.session.specs.declared.Session.{Session}

pub record Lengths (s : Session) : Type 0 where
  pub enc : length s.sk_enc ≡ 32
  pub mac : length s.sk_mac ≡ 32
  pub rmac : length s.sk_rmac ≡ 32
  pub command : length s.command_mcv ≡ 16
  pub response : length s.response_mcv ≡ 16
