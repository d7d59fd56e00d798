-- What demand 3 does not except and does not ask, one line each: neither a refusal nor a closing is an exception; a field that is unwrapped
-- may be any list of numbers.
use Prim.Native.Nat.{ℕ}
use Rattle.octets.specs.Bytes.{Bytes}
use Rattle.apdu.specs.declared.Header.{Header}
use Rattle.refusal.specs.declared.Refusal.{Refusal}
use Rattle.session_suite.specs.StoredKeys.{Keys}
use Rattle.session.specs.declared.Side.{Side}
use Rattle.message_ciphers.specs.Ciphers.{Ciphers}
use Rattle.message_answer.specs.Message.{StatusWord}
use Rattle.message_answer.specs.Answer.{refused}
use Rattle.message_protocol.specs.Transcript.{Call, unwrap_command, unwrap_response, close, Gives, Transcript}
use Rattle.message_protocol.specs.Agreement.{Breaks, BreaksIn, CallBytes}

module _ (C : Ciphers) (K : Keys) (t : Transcript) where
  closing_not_excepted : (side : Side) (u : Gives (close side)) → Breaks C K t (close side) u → ⊥
  closing_not_excepted side u b = b

  refusal_not_excepted : (c : Call) (r : Refusal) → BreaksIn C K t c (refused r) → ⊥
  refusal_not_excepted c r b = b

any_command_field : (side : Side) (header : Header) (field : Bytes) (room : ℕ) → CallBytes (unwrap_command side header field room)
any_command_field side header field room = tt

any_response_field : (side : Side) (sw : StatusWord) (field : Bytes) (room : ℕ) → CallBytes (unwrap_response side sw field room)
any_response_field side sw field room = tt
