-- The host's wrap with AES, by the function's own parameters. Assumes nothing.
use Rattle.std.specs.Prelude.{Bool, ℕ}
use Rattle.octets.specs.Bytes.{Bytes}
use Rattle.apdu.specs.declared.Header.{Header}
use Rattle.session.specs.declared.Session.{Session}
use Rattle.message_ciphers.specs.Aes.{aes_ciphers}
use Rattle.message_answer.specs.Message.{command_header}
use Rattle.message_answer.specs.Answer.{Out}
use Rattle.message_protocol.specs.Command.{host_wraps}

abbrev pub wrap_command : Session → Header → Bool → Bytes → ℕ → Out Bytes
wrap_command s header le d room = host_wraps aes_ciphers s (record { header = command_header header le; payload = d }) room
