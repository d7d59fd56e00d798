-- What the types say of a session's arrays: their lengths, and that they hold bytes.
use Rattle.std.specs.Prelude.{◌≡◌, ℕ, length}
use Rattle.octets.specs.Bytes.{Bytes, IsBytes}
use Rattle.session.specs.declared.Session.{Session}

-- n bytes
pub record Block (n : ℕ) (xs : Bytes) : Type 0 where
  pub size : length xs ≡ n
  pub bytes : IsBytes xs

pub record Arrays (s : Session) : Type 0 where
  pub enc : Block 32 s.sk_enc
  pub mac : Block 32 s.sk_mac
  pub rmac : Block 32 s.sk_rmac
  pub command : Block 16 s.command_mcv
  pub response : Block 16 s.response_mcv
