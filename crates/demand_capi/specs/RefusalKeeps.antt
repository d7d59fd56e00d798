-- Demand 1, of the calls from C. Whatever the bytes, the session and the turn, a call that is not done answers a
-- number of its order; it changes no byte of its output; and the session's bytes stay, save that after a wrong MAC or
-- wrong padding they are those of the closed session. Bytes that hold no session are answered 16, before all else.
-- The numbers that a call writes through pointers are part of its answer.
use Rattle.std.specs.Prelude.{◌≡◌, Bool, false, ◌⊎◌, ◌↔◌, ℕ, drop, Ok, Err}
use mathlib.Core.List.{[], ◌∷◌, Memᴰ}
use Rattle.octets.specs.Bytes.{Bytes}
use Rattle.refusal.specs.Refusal.{number, size, status}
use Rattle.refusal.specs.declared.Refusal.{Refusal}
use Rattle.refusal.specs.declared.Refusal.TheVariants.{BadMac, BadPadding, UnknownSuite, BadKeyLength, BadSession}
use Rattle.session.specs.declared.Session.{Session}
use Rattle.session_bytes.specs.Saved.{session_size}
use Rattle.message_ciphers.specs.Aes.{aes_ciphers}
use Rattle.message_answer.specs.Answer.{Answer, refused}
use Rattle.message_protocol.specs.RefusalKeeps.{order, IsClosed}
use Rattle.message_protocol.specs.Transcript.{Gives, does}
use Rattle.capi_session.specs.SessionBytes.{session_in, put_in, on_session}
use Rattle.capi_open.specs.Call.{Left}
use Rattle.demand_capi.specs.Calls.{OpensHost, OpensCard, open_host_given, open_host_left, open_card_given, open_card_left, Event, wraps_command, unwraps_command, wraps_response, unwraps_response, closes, wrap_command_given, wrap_command_left, unwrap_command_given, unwrap_command_left, wrap_response_given, wrap_response_left, unwrap_response_given, unwrap_response_left, seen, call}

-- the other buffer before and after a call, and the numbers that the call wrote; 0 and false where it writes none
pub record Output : Type 0 where
  pub before : Bytes
  pub after : Bytes
  pub written : ℕ
  pub status : ℕ
  pub le : Bool

abbrev pub output_as : Bytes → Bytes → ℕ → ℕ → Bool → Output
output_as before after written status le =
    record { before = before; after = after; written = written; status = status; le = le }

abbrev pub output : Event → Output
output (wraps_command side c) =
    let l = wrap_command_left c in output_as (wrap_command_given c).field l.field l.written 0 false
output (unwraps_command side c) =
    let l = unwrap_command_left c in output_as (unwrap_command_given c).payload l.payload l.written 0 l.le
output (wraps_response side c) =
    let l = wrap_response_left c in output_as (wrap_response_given c).field l.field l.written 0 false
output (unwraps_response side c) =
    let l = unwrap_response_left c in
    output_as (unwrap_response_given c).payload l.payload l.written l.status false
output (closes side c) = output_as [] [] 0 0 false

-- what the definition answers at the bytes that were handed in
abbrev pub answer_of : (e : Event) → Answer (Gives (call e))
answer_of e = (on_session (seen e).held (λ s. does aes_ciphers s (call e))).answer

-- the bytes of the session that was read, closed
pub record ClosedIn (e : Event) : Type 0 where
  pub read : Session
  pub session : Session
  pub was_read : session_in (seen e).held ≡ Ok read
  pub is_closed : IsClosed read session
  pub held : (seen e).held_after ≡ put_in (seen e).held session

abbrev pub Closing : ℕ → Type 0
Closing n = (n ≡ number BadMac) ⊎ (n ≡ number BadPadding)

pub record Keeps (e : Event) : Type 0 where
  pub refusal : Refusal
  pub refuses : answer_of e ≡ refused refusal
  pub in_order : Memᴰ (seen e).number (number BadSession ∷ order (call e))
  -- the number; length 0 but for the length needed; no status but at 13
  pub number_is : (seen e).number ≡ number refusal
  pub length_is : (output e).written ≡ size refusal
  pub status_is : (output e).status ≡ status refusal
  pub no_le : (output e).le ≡ false
  pub buffer_stays : (output e).after ≡ (output e).before
  pub closed : Closing (seen e).number → ClosedIn e
  pub stays : (Closing (seen e).number → ⊥) → (seen e).held_after ≡ (seen e).held

-- every call, with all bytes and all lengths
abbrev pub RefusalKeeps : Type 0
RefusalKeeps = (e : Event) → ((seen e).number ≡ 0 → ⊥) → Keeps e

-- 16 comes before all else: exactly where no session can be read
abbrev pub SixteenExactly : Type 0
SixteenExactly =
    (e : Event) → ((seen e).number ≡ number BadSession) ↔ (session_in (seen e).held ≡ Err BadSession)

-- an answer that is no refusal keeps the bytes of the output after those that it writes
abbrev pub RestKeeps : Type 0
RestKeeps =
    (e : Event) → (seen e).number ≡ 0
    → let o = output e in drop o.written o.after ≡ drop o.written o.before

-- a refused opening leaves the buffer as it was: 11 and 12, and 6 where there is no room for the session
pub record Refuses (before : Bytes) (l : Left) : Type 0 where
  pub in_order : Memᴰ l.number (number UnknownSuite ∷ number BadKeyLength ∷ 6 ∷ [])
  pub no_length : (l.number ≡ 6 → ⊥) → l.len ≡ 0
  pub needed : l.number ≡ 6 → l.len ≡ session_size
  pub stays : l.session ≡ before

abbrev pub HostOpeningRefuses : Type 0
HostOpeningRefuses =
    (o : OpensHost) → ((open_host_left o).number ≡ 0 → ⊥) → Refuses (open_host_given o).session (open_host_left o)

abbrev pub CardOpeningRefuses : Type 0
CardOpeningRefuses =
    (o : OpensCard) → ((open_card_left o).number ≡ 0 → ⊥) → Refuses (open_card_given o).session (open_card_left o)
