-- Every call keeps the rules of the saved session, whatever it is called with.
-- Assumes nothing.
use mathlib.Core.Path.{◌≡◌}
use mathlib.Core.Bool.{true}
use Rattle.octets.proofs.Tests.{both}
use Rattle.session.specs.Session.{closed}
use Rattle.session.specs.declared.Side.TheVariants.{Host, Card}
use Rattle.session.specs.declared.Phase.TheVariants.{Ready, Pending}
use Rattle.session.specs.declared.Session.{Session}
use Rattle.session_rules.specs.Valid.{valid, is_open, counts_as_open}
use Rattle.session_rules.proofs.KeepsTheRules.{closed_valid, command_served, response_served}
use Rattle.refusal.specs.declared.Refusal.{Refusal}
use Rattle.message_ciphers.specs.Ciphers.{Ciphers}
use Rattle.message_answer.specs.Answer.{Out, after_refusal}
use Rattle.message_protocol.specs.Command.{command_wrapped, command_accepted}
use Rattle.message_protocol.specs.Response.{response_wrapped, response_accepted}
use Rattle.message_protocol.specs.Transcript.{Call, wrap_command, unwrap_command, wrap_response, unwrap_response, close, does}
use Rattle.message_protocol.proofs.CallCases.{turn_is, host_wraps_lem, card_wraps_lem, card_unwraps_lem, host_unwraps_lem}
use Rattle.message_answer.proofs.Refusals.{after_refusal_lem}

open_valid : (s : Session) → counts_as_open s ≡ true → valid s ≡ true
unfolding counts_as_open
open_valid s e = (both (is_open s.phase) (valid s) e).1

module _ (C : Ciphers) (s : Session) (v : valid s ≡ true) where
  abbrev Kept : {A : Type 0} → Out A → Type 0
  Kept out = valid out.next ≡ true

  refused_valid : (r : Refusal) → valid (after_refusal s r) ≡ true
  refused_valid r = after_refusal_lem closed (λ (t : Session). valid t ≡ true) s r v (closed_valid s)

  pub keeps_the_rules : (c : Call) → valid (does C s c).next ≡ true
  unfolding does command_wrapped command_accepted response_wrapped response_accepted
  keeps_the_rules (wrap_command side m room) =
      host_wraps_lem C Kept s m room refused_valid
      (λ may. open_valid _ (command_served s _ may.opened (turn_is Host Ready s may.turn).1 may.counted))
  keeps_the_rules (unwrap_command side header field room) =
      card_unwraps_lem C Kept s header field room refused_valid
      (λ o d read. open_valid _ (command_served s _ read.may.opened (turn_is Card Ready s read.may.turn).1 read.may.counted))
  keeps_the_rules (wrap_response side m room) =
      card_wraps_lem C Kept s m room refused_valid
      (λ may. open_valid _ (response_served s _ may.opened (turn_is Card Pending s may.turn).1))
  keeps_the_rules (unwrap_response side sw field room) =
      host_unwraps_lem C Kept s sw field room refused_valid
      (λ o d read. open_valid _ (response_served s _ read.may.opened (turn_is Host Pending s read.may.turn).1))
  keeps_the_rules (close side) = closed_valid s
