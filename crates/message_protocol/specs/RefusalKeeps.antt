-- Demand 1 (rule 10.1): every refusal has a number of its call's order, no byte of the caller's buffer changes, and the session stays, but
-- is closed, field by field, at 9 and 10.
use Rattle.std.specs.Prelude.{◌≡◌, ◌⊎◌, ℕ}
use mathlib.Core.List.{List, [], ◌∷◌, Memᴰ}
use Rattle.octets.specs.Bytes.{Bytes, zeros}
use Rattle.refusal.specs.Refusal.{number}
use Rattle.refusal.specs.declared.Refusal.{Refusal}
use Rattle.session.specs.declared.Phase.TheVariants.{Closed}
use Rattle.session.specs.declared.Session.{Session}
use Rattle.message_ciphers.specs.Ciphers.{Ciphers}
use Rattle.message_answer.specs.Answer.{refused, buffer}
use Rattle.message_protocol.specs.Transcript.{Call, wrap_command, unwrap_command, wrap_response, unwrap_response, close, Gives, does}

-- the refusals of each call; that they come in the order of rule 2.5 is in the calls' definitions, and computed in proofs/Answers
abbrev pub order : Call → List ℕ
order (wrap_command side m room) = 1 ∷ 2 ∷ 3 ∷ 4 ∷ 5 ∷ 6 ∷ []
order (unwrap_command side header field room) = 1 ∷ 2 ∷ 3 ∷ 4 ∷ 5 ∷ 7 ∷ 8 ∷ 6 ∷ 9 ∷ 10 ∷ []
order (wrap_response side m room) = 1 ∷ 2 ∷ 3 ∷ 4 ∷ 6 ∷ []
order (unwrap_response side sw field room) = 1 ∷ 2 ∷ 13 ∷ 4 ∷ 7 ∷ 8 ∷ 6 ∷ 9 ∷ 10 ∷ []
order (close side) = []

-- what a call writes at the start of the caller's buffer
abbrev pub writes : (c : Call) → Gives c → Bytes
writes (wrap_command side m room) field = field
writes (unwrap_command side header field room) g = g.payload
writes (wrap_response side m room) field = field
writes (unwrap_response side sw field room) m = m.payload
writes (close side) u = []

-- closed, field by field
pub record IsClosed (before after : Session) : Type 0 where
  pub side_stays : after.side ≡ before.side
  pub suite_stays : after.suite ≡ before.suite
  pub phase_is : after.phase ≡ Closed
  pub count_is : after.count ≡ 0
  pub enc_is : after.sk_enc ≡ zeros 32
  pub mac_is : after.sk_mac ≡ zeros 32
  pub rmac_is : after.sk_rmac ≡ zeros 32
  pub command_mcv_is : after.command_mcv ≡ zeros 16
  pub response_mcv_is : after.response_mcv ≡ zeros 16

pub record Keeps (C : Ciphers) (s : Session) (c : Call) (r : Refusal) (held : Bytes) : Type 0 where
  pub in_order : Memᴰ (number r) (order c)
  pub output : buffer (writes c) held (does C s c).answer ≡ held
  pub closes : (number r ≡ 9) ⊎ (number r ≡ 10) → IsClosed s (does C s c).next
  pub stays : ((number r ≡ 9) ⊎ (number r ≡ 10) → ⊥) → (does C s c).next ≡ s

-- every session value, every call, every buffer
abbrev pub RefusalKeeps : Ciphers → Type 0
RefusalKeeps C = (s : Session) (c : Call) (r : Refusal) (held : Bytes) → (does C s c).answer ≡ refused r → Keeps C s c r held
