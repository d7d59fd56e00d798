-- The field of a command that passed its tests, with AES, by the function's own parameters. Assumes nothing.
use Rattle.std.specs.Prelude.{Bool, ℕ, ◌<◌, ◌≤◌}
use Rattle.octets.specs.Bytes.{Bytes}
use Rattle.apdu.specs.declared.Header.{Header}
use Rattle.field_size.specs.Lengths.{command_length}
use Rattle.session.specs.declared.Session.{Session}
use Rattle.message_ciphers.specs.Aes.{aes_ciphers}
use Rattle.message_answer.specs.Message.{command_header, max_command_data, command_limit}
use Rattle.message_answer.specs.Answer.{Outcome}
use Rattle.message_protocol.specs.Command.{command_ciphertext, command_wrapped}

-- what its writing needs of the tests: n bytes of data, and the buffer's size
pub record MayWriteCommand (s : Session) (le : Bool) (n room : ℕ) : Type 0 where
  pub counted : s.count < command_limit
  pub short : n ≤ max_command_data
  pub fits : command_length n le ≤ room

abbrev pub command_written : Session → Header → Bool → Bytes → Outcome Bytes
command_written s header le d = command_wrapped aes_ciphers s (command_header header le) (command_ciphertext aes_ciphers s d)
