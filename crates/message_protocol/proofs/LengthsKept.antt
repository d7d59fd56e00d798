-- Every call keeps the lengths of a session's keys and chaining values: a full MAC has 16 bytes.
use mathlib.Core.Path.{◌≡◌}
use lib.ListN.{length}
use Rattle.octets.specs.Bytes.{Bytes}
use Rattle.refusal.specs.declared.Refusal.{Refusal}
use Rattle.message_ciphers.specs.Ciphers.{Ciphers}
use Rattle.session.specs.Session.{closed}
use Rattle.session.specs.declared.Session.{Session}
use Rattle.message_answer.specs.Answer.{Out, after_refusal}
use Rattle.message_protocol.specs.Command.{command_mac, command_wrapped, command_accepted}
use Rattle.message_protocol.specs.Response.{response_mac, response_wrapped, response_accepted}
use Rattle.message_protocol.specs.Transcript.{Call, wrap_command, unwrap_command, wrap_response, unwrap_response, close, does}
use Rattle.message_protocol.proofs.CallCases.{host_wraps_lem, card_wraps_lem, card_unwraps_lem, host_unwraps_lem}
use Rattle.message_answer.proofs.Refusals.{after_refusal_lem}
use Rattle.session_bytes.specs.Lengths.{Lengths}
use Rattle.session_bytes.proofs.SessionLengths.{closed_lengths}

module _ (C : Ciphers) (mac-long : (k m : Bytes) → length (C.mac k m) ≡ 16) (s : Session) (l : Lengths s) where
  abbrev Kept : {A : Type 0} → Out A → Type 0
  Kept out = Lengths out.next

  refused_lengths : (r : Refusal) → Lengths (after_refusal s r)
  refused_lengths r = after_refusal_lem closed (λ (t : Session). Lengths t) s r l (closed_lengths s)

  pub keeps_lengths : (c : Call) → Lengths (does C s c).next
  unfolding does command_wrapped command_accepted response_wrapped response_accepted command_mac response_mac
  keeps_lengths (wrap_command side m room) =
      host_wraps_lem C Kept s m room refused_lengths
      (λ may. record { enc = l.enc; mac = l.mac; rmac = l.rmac; command = mac-long _ _; response = l.response })
  keeps_lengths (unwrap_command side header field room) =
      card_unwraps_lem C Kept s header field room refused_lengths
      (λ o d read. record { enc = l.enc; mac = l.mac; rmac = l.rmac; command = mac-long _ _; response = l.response })
  keeps_lengths (wrap_response side m room) =
      card_wraps_lem C Kept s m room refused_lengths
      (λ may. record { enc = l.enc; mac = l.mac; rmac = l.rmac; command = l.command; response = mac-long _ _ })
  keeps_lengths (unwrap_response side sw field room) =
      host_unwraps_lem C Kept s sw field room refused_lengths
      (λ o d read. record { enc = l.enc; mac = l.mac; rmac = l.rmac; command = l.command; response = mac-long _ _ })
  keeps_lengths (close side) = closed_lengths s
