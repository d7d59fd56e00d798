-- Demand 2: a command that the host wraps and fragments, by any size that may be asked for, and that the card
-- reassembles and unwraps, of the functions. Assumes nothing.
use Rattle.std.specs.Prelude.{◌≡◌, true, List, [], ◌∷◌, ℕ, ◌+◌, ◌≤◌, ◌<◌, length, take, Result, Ok, Err}
use Rattle.octets.specs.Bytes.{Bytes}
use Rattle.field_size.specs.Lengths.{ciphertext_length, command_length}
use Rattle.session.specs.declared.Side.TheVariants.{Host, Card}
use Rattle.session.specs.declared.Phase.TheVariants.{Ready, Pending}
use Rattle.message_answer.specs.Message.{max_command_data, command_limit}
pub use Rattle.message_answer.specs.Message.{header_of}
use Rattle.message_permission.specs.Permission.{command_permitted}
use Rattle.message_answer.specs.Answer.{Answer, refused, gave}
use Rattle.message_protocol.specs.HonestDelivery.{InStep}
use Rattle.apdu.specs.Apdu.{status}
use Rattle.refusal.specs.declared.Refusal.{Refusal}
use Rattle.chain_command.specs.Fragment.{max_fragment}
use Rattle.chain_command.specs.Reassembly.{empty}
use Rattle.chain_command.specs.declared.CommandPart.{CommandPart}
use Rattle.chain_command.specs.declared.CommandPart.TheVariants.{More, Whole}
use Rattle.demand_calls.specs.Calls.{WrapsCommand, UnwrapsCommand, wraps_command, unwraps_command, session, command, buffer_before, next, answer}
use Rattle.demand_chaining.specs.Calls.{FragmentsCommand, ReassemblesCommand}
use Rattle.demand_chaining.specs.CommandChaining.{AsksAll, Handed, buffer_after, CommandReassembled}

-- the field that a wrap gave
abbrev pub field_in : Answer Bytes → Bytes
field_in (gave field) = field
field_in (refused r) = []

abbrev pub field_of : WrapsCommand → Bytes
field_of w = field_in (answer (wraps_command Host w))

-- the answer of the last call
abbrev pub last_answer : Result CommandPart Refusal → List ReassemblesCommand → Result CommandPart Refusal
last_answer a [] = a
last_answer a (r ∷ rs) = last_answer r.result.answer rs

-- what is unwrapped is the field and the header that reassembling gave; where it gave none, nothing is said of what is unwrapped
abbrev pub Unwraps : Result CommandPart Refusal → Bytes → UnwrapsCommand → Type 0
Unwraps (Ok (Whole n h)) out u =
    (u.args.1.0.ins ≡ h.ins) × (u.args.1.0.p1 ≡ h.p1) × (u.args.1.0.p2 ≡ h.p2) × (u.args.1.1.0.now ≡ take n out)
Unwraps (Ok (More n sw)) out u = Unit {0}
Unwraps (Err r) out u = Unit {0}

-- wrapped, fragmented by that size, reassembled in a buffer that held those bytes, and unwrapped
pub record CarriesCommand (w : WrapsCommand) (size : ℕ) (held : Bytes) (fs : List FragmentsCommand) (rs : List ReassemblesCommand) (u : UnwrapsCommand) : Type 0 where
  pub small : size ≤ max_fragment
  pub fragmented : AsksAll (header_of (command w).header) (field_of w) size 0 fs
  pub reassembled : Handed empty held fs rs
  pub room : length (field_of w) ≤ length held
  pub unwrapped : Unwraps (last_answer (Ok (More 0 (status 0 0))) rs) (buffer_after held rs) u

-- the conditions of a wrap and an unwrap that are not about their sessions: permitted, within the limits, with room
pub record Sendable (w : WrapsCommand) (u : UnwrapsCommand) : Type 0 where
  pub permitted : command_permitted (command w).header (length (command w).payload) ≡ true
  pub short : length (command w).payload ≤ max_command_data
  pub wrap_room : command_length (length (command w).payload) (command w).header.le ≤ length (buffer_before (wraps_command Host w))
  pub unwrap_room : ciphertext_length (length (command w).payload) ≤ length (buffer_before (unwraps_command Card u))

pub record CommandArrives (w : WrapsCommand) (u : UnwrapsCommand) : Type 0 where
  pub sent : answer (wraps_command Host w) ≡ gave (field_of w)
  pub same_header : u.args.1.0 ≡ header_of (command w).header
  pub same : answer (unwraps_command Card u) ≡ gave (record { payload = (command w).payload; le = (command w).header.le })
  pub again : InStep Pending (next (wraps_command Host w)) (next (unwraps_command Card u))
  pub counted : (next (wraps_command Host w)).count ≡ (session (wraps_command Host w)).count + 1

abbrev pub DeliversChainedCommands : Type 0
DeliversChainedCommands =
    (w : WrapsCommand) (size : ℕ) (held : Bytes) (fs : List FragmentsCommand) (rs : List ReassemblesCommand) (u : UnwrapsCommand)
    → InStep Ready (session (wraps_command Host w)) (session (unwraps_command Card u)) → (session (wraps_command Host w)).count < command_limit
    → Sendable w u → CarriesCommand w size held fs rs u
    → CommandReassembled (header_of (command w).header) (field_of w) size held rs × CommandArrives w u
