-- The field of a response that passed its tests, with AES, by the function's own parameters. Assumes nothing.
use Rattle.std.specs.Prelude.{ℕ, ◌≤◌}
use Rattle.octets.specs.Bytes.{Bytes}
use Rattle.apdu.specs.declared.StatusWord.{StatusWord}
use Rattle.field_size.specs.Lengths.{response_length}
use Rattle.session.specs.declared.Session.{Session}
use Rattle.message_ciphers.specs.Aes.{aes_ciphers}
use Rattle.message_answer.specs.Message.{max_response_data, command_limit}
use Rattle.message_answer.specs.Answer.{Outcome}
use Rattle.message_protocol.specs.Response.{response_ciphertext, response_wrapped}

-- what its writing needs of the tests: n bytes of data, and the buffer's size
pub record MayWriteResponse (s : Session) (n room : ℕ) : Type 0 where
  pub counted : s.count ≤ command_limit
  pub short : n ≤ max_response_data
  pub fits : response_length n ≤ room

abbrev pub response_written : Session → StatusWord → Bytes → Outcome Bytes
response_written s status d = response_wrapped aes_ciphers s status (response_ciphertext aes_ciphers s d)
