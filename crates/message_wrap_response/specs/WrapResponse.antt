-- The card's wrap with AES, by the function's own parameters. Assumes nothing.
use Rattle.std.specs.Prelude.{ℕ}
use Rattle.octets.specs.Bytes.{Bytes}
use Rattle.apdu.specs.declared.StatusWord.{StatusWord}
use Rattle.session.specs.declared.Session.{Session}
use Rattle.message_ciphers.specs.Aes.{aes_ciphers}
use Rattle.message_answer.specs.Answer.{Out}
use Rattle.message_protocol.specs.Response.{card_wraps}

abbrev pub wrap_response : Session → StatusWord → Bytes → ℕ → Out Bytes
wrap_response s status d room = card_wraps aes_ciphers s (record { header = status; payload = d }) room
