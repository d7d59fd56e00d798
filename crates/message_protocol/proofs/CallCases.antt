-- The ways through a call: a refusal, or every test passed and the accepting outcome.
use mathlib.Core.Path.{◌≡◌}
use mathlib.Core.Bool.{true}
use Prim.Native.Nat.{ℕ, ◌+◌, ◌≤◌, ◌<◌}
use borrow.Author.Tests.{leb-true, ltb-true}
use lib.ListN.{length, take}
use Rattle.message_answer.proofs.Required.{require_gave, then_case}
use Rattle.octets.specs.Bytes.{Bytes}
use Rattle.field_read.specs.Field.{read_field, ciphertext_of, covered_of, mac_of}
use Rattle.field_read.specs.declared.Objects.{Objects}
use Rattle.std.specs.Prelude.{Result, Ok, Some}
use Rattle.apdu.specs.declared.Header.{Header}
use Rattle.field_read.specs.declared.FieldError.{FieldError}
use Rattle.field_size.specs.Lengths.{command_length, response_length}
use Rattle.refusal.specs.declared.Refusal.{Refusal}
use Rattle.session_suite.specs.StoredKeys.{key_in}
use Rattle.session_turn.specs.Turn.{is_turn}
use Rattle.session_turn.proofs.InTurn.{in_turn}
use Rattle.session_rules.specs.Valid.{counts_as_open}
use Rattle.session.specs.declared.Side.{Side}
use Rattle.session.specs.declared.Side.TheVariants.{Host, Card}
use Rattle.session.specs.declared.Phase.{Phase}
use Rattle.session.specs.declared.Phase.TheVariants.{Ready, Pending}
use Rattle.session.specs.declared.Session.{Session}
use Rattle.message_ciphers.specs.Ciphers.{Ciphers}
use Rattle.message_answer.specs.Message.{CommandHeader, StatusWord, Command, Response, max_command_data, max_response_data, max_command_field, max_response_field, command_limit, CommandGiven}
use Rattle.message_permission.specs.Permission.{ins_permitted, command_permitted, status_permitted, command_wanted, response_wanted}
use Rattle.message_counter.specs.Counter.{command_counter, response_counter}
use Rattle.message_answer.specs.Answer.{Answer, refused, gave, ◌and_then◌, Outcome, Out, concluded, not_given, given}
use Rattle.message_verify.specs.Reading.{objects_of}
use Rattle.message_verify.proofs.Stages.{objects_gave, verified_gave}
use Rattle.message_protocol.specs.Command.{wrap_command_checks, unwrap_command_checks, command_mac, command_ciphertext, command_wrapped, command_accepted, header_read, host_wraps, open_command, card_unwraps}
use Rattle.message_protocol.specs.Response.{wrap_response_checks, unwrap_response_checks, response_mac, response_ciphertext, response_wrapped, response_accepted, card_wraps, open_response, host_unwraps}

-- ---- stages

-- an unwrap: its tests, the reading, the stages behind it, and what it accepts
pub unwrap_case : {A : Type 0} (Q : Answer (Outcome A) → Type 0) (checks : Answer (Unit {0})) (read : Result Objects FieldError) (text : Objects → Answer Bytes)
    (accepted : Objects → Bytes → Outcome A) → ((r : Refusal) → Q (refused r))
    → ((u : Unit {0}) (o : Objects) (d : Bytes) → checks ≡ gave u → read ≡ Ok o → text o ≡ gave d → Q (gave (accepted o d)))
    → Q (checks and_then (λ u. objects_of read and_then (λ o. text o and_then (λ d. gave (accepted o d)))))
unwrap_case Q checks read text accepted stop go =
    then_case Q checks _ (λ r e. stop r) (λ u e.
    then_case Q (objects_of read) _ (λ r f. stop r) (λ o f.
    then_case Q (text o) _ (λ r g. stop r) (λ d g.
    go u o d e (objects_gave read o f) g)))

-- ---- turns

pub turn_is : (side : Side) (phase : Phase) (s : Session) → is_turn side phase s.side s.phase ≡ true → (s.side ≡ side) × (s.phase ≡ phase)
turn_is side phase s e = in_turn side phase s.side s.phase e

-- ---- what the tests of each call show

pub record MayWrapCommand (s : Session) (h : CommandHeader) (n room : ℕ) : Type 0 where
  pub opened : counts_as_open s ≡ true
  pub turn : is_turn Host Ready s.side s.phase ≡ true
  pub permitted : command_permitted h n ≡ true
  pub short : n ≤ max_command_data
  pub counted : s.count < command_limit
  pub fits : command_length n h.le ≤ room

pub may_wrap_command : (s : Session) (h : CommandHeader) (n room : ℕ) (u : Unit {0}) → wrap_command_checks s h n room ≡ gave u → MayWrapCommand s h n room
unfolding wrap_command_checks
may_wrap_command s h n room u e =
    let a = require_gave _ _ _ u e in
    let b = require_gave _ _ _ u a.1 in
    let c = require_gave _ _ _ u b.1 in
    let d = require_gave _ _ _ u c.1 in
    let f = require_gave _ _ _ u d.1 in
    let g = require_gave _ _ _ u f.1 in
    record { opened = a.0; turn = b.0; permitted = c.0; short = leb-true _ _ d.0; counted = ltb-true _ _ f.0; fits = leb-true _ _ g.0 }

pub record MayUnwrapCommand (s : Session) (ins n : ℕ) : Type 0 where
  pub opened : counts_as_open s ≡ true
  pub turn : is_turn Card Ready s.side s.phase ≡ true
  pub permitted : ins_permitted ins ≡ true
  pub short : n ≤ max_command_field
  pub counted : s.count < command_limit

pub may_unwrap_command : (s : Session) (ins n : ℕ) (u : Unit {0}) → unwrap_command_checks s ins n ≡ gave u → MayUnwrapCommand s ins n
unfolding unwrap_command_checks
may_unwrap_command s ins n u e =
    let a = require_gave _ _ _ u e in
    let b = require_gave _ _ _ u a.1 in
    let c = require_gave _ _ _ u b.1 in
    let d = require_gave _ _ _ u c.1 in
    let f = require_gave _ _ _ u d.1 in
    record { opened = a.0; turn = b.0; permitted = c.0; short = leb-true _ _ d.0; counted = ltb-true _ _ f.0 }

pub record MayWrapResponse (s : Session) (sw : StatusWord) (n room : ℕ) : Type 0 where
  pub opened : counts_as_open s ≡ true
  pub turn : is_turn Card Pending s.side s.phase ≡ true
  pub permitted : status_permitted sw ≡ true
  pub short : n ≤ max_response_data
  pub fits : response_length n ≤ room

pub may_wrap_response : (s : Session) (sw : StatusWord) (n room : ℕ) (u : Unit {0}) → wrap_response_checks s sw n room ≡ gave u → MayWrapResponse s sw n room
unfolding wrap_response_checks
may_wrap_response s sw n room u e =
    let a = require_gave _ _ _ u e in
    let b = require_gave _ _ _ u a.1 in
    let c = require_gave _ _ _ u b.1 in
    let d = require_gave _ _ _ u c.1 in
    let f = require_gave _ _ _ u d.1 in
    record { opened = a.0; turn = b.0; permitted = c.0; short = leb-true _ _ d.0; fits = leb-true _ _ f.0 }

pub record MayUnwrapResponse (s : Session) (sw : StatusWord) (n : ℕ) : Type 0 where
  pub opened : counts_as_open s ≡ true
  pub turn : is_turn Host Pending s.side s.phase ≡ true
  pub some : 0 < n
  pub short : n ≤ max_response_field

pub may_unwrap_response : (s : Session) (sw : StatusWord) (n : ℕ) (u : Unit {0}) → unwrap_response_checks s sw n ≡ gave u → MayUnwrapResponse s sw n
unfolding unwrap_response_checks
may_unwrap_response s sw n u e =
    let a = require_gave _ _ _ u e in
    let b = require_gave _ _ _ u a.1 in
    let c = require_gave _ _ _ u b.1 in
    let d = require_gave _ _ _ u c.1 in
    record { opened = a.0; turn = b.0; some = ltb-true _ _ c.0; short = leb-true _ _ d.0 }

-- ---- each call

module _ (C : Ciphers) where
  -- of every refusal
  abbrev pub Refuses : {A : Type 0} → (Out A → Type 0) → Session → Type 0
  Refuses Q s = (r : Refusal) → Q (not_given s r)

  pub host_wraps_lem : (Q : Out Bytes → Type 0) (s : Session) (m : Command) (room : ℕ) → Refuses Q s
      → (MayWrapCommand s m.header (length m.payload) room → Q (given (command_wrapped C s m.header (command_ciphertext C s m.payload))))
      → Q (host_wraps C s m room)
  unfolding host_wraps concluded
  host_wraps_lem Q s m room stop go =
      then_case (λ (a : Answer (Outcome Bytes)). Q (concluded s a)) (wrap_command_checks s m.header (length m.payload) room) _ (λ r e. stop r)
      (λ u e. go (may_wrap_command s m.header (length m.payload) room u e))

  pub card_wraps_lem : (Q : Out Bytes → Type 0) (s : Session) (m : Response) (room : ℕ) → Refuses Q s
      → (MayWrapResponse s m.header (length m.payload) room → Q (given (response_wrapped C s m.header (response_ciphertext C s m.payload))))
      → Q (card_wraps C s m room)
  unfolding card_wraps concluded
  card_wraps_lem Q s m room stop go =
      then_case (λ (a : Answer (Outcome Bytes)). Q (concluded s a)) (wrap_response_checks s m.header (length m.payload) room) _ (λ r e. stop r)
      (λ u e. go (may_wrap_response s m.header (length m.payload) room u e))

  -- a field read, room for its data, a right MAC, and right padding
  pub record CommandRead (s : Session) (header : Header) (field : Bytes) (room : ℕ) (o : Objects) (d : Bytes) : Type 0 where
    pub may : MayUnwrapCommand s header.ins (length field)
    pub read : read_field (command_wanted header.ins) field ≡ Ok o
    pub fits : length (ciphertext_of field o) ≤ room
    pub right : mac_of field o ≡ take 8 (command_mac C s (header_read header o) (covered_of field o))
    pub text : C.decrypt (key_in s.suite s.sk_enc) (command_counter (s.count + 1)) (ciphertext_of field o) ≡ Some d

  pub card_unwraps_lem : (Q : Out CommandGiven → Type 0) (s : Session) (header : Header) (field : Bytes) (room : ℕ) → Refuses Q s
      → ((o : Objects) (d : Bytes) → CommandRead s header field room o d
      → Q (given (command_accepted s o.second (command_mac C s (header_read header o) (covered_of field o)) d)))
      → Q (card_unwraps C s header field room)
  unfolding open_command card_unwraps concluded
  card_unwraps_lem Q s header field room stop go =
      unwrap_case (λ (a : Answer (Outcome CommandGiven)). Q (concluded s a))
      (unwrap_command_checks s header.ins (length field)) (read_field (command_wanted header.ins) field) _ _ stop (λ u o d e f g.
      let passed = verified_gave C _ _ _ _ room d g in
      go o d (record { may = may_unwrap_command s header.ins (length field) u e; read = f; fits = passed.fits; right = passed.right; text = passed.text }))

  pub record ResponseRead (s : Session) (sw : StatusWord) (field : Bytes) (room : ℕ) (o : Objects) (d : Bytes) : Type 0 where
    pub may : MayUnwrapResponse s sw (length field)
    pub read : read_field (response_wanted sw) field ≡ Ok o
    pub fits : length (ciphertext_of field o) ≤ room
    pub right : mac_of field o ≡ take 8 (response_mac C s (covered_of field o))
    pub text : C.decrypt (key_in s.suite s.sk_enc) (response_counter s.count) (ciphertext_of field o) ≡ Some d

  pub host_unwraps_lem : (Q : Out Response → Type 0) (s : Session) (sw : StatusWord) (field : Bytes) (room : ℕ) → Refuses Q s
      → ((o : Objects) (d : Bytes) → ResponseRead s sw field room o d → Q (given (response_accepted s sw (response_mac C s (covered_of field o)) d)))
      → Q (host_unwraps C s sw field room)
  unfolding open_response host_unwraps concluded
  host_unwraps_lem Q s sw field room stop go =
      unwrap_case (λ (a : Answer (Outcome Response)). Q (concluded s a))
      (unwrap_response_checks s sw (length field)) (read_field (response_wanted sw) field) _ _ stop (λ u o d e f g.
      let passed = verified_gave C _ _ _ _ room d g in
      go o d (record { may = may_unwrap_response s sw (length field) u e; read = f; fits = passed.fits; right = passed.right; text = passed.text }))
