-- An opening that was not refused leaves the bytes of a session that is open.
use mathlib.Core.Path.{◌≡◌, refl, sym, ap, ◌∙◌}
use mathlib.Core.Bool.{Bool, true, false}
use Prim.Native.Nat.{ℕ}
use native.Mathlib.Omega.{arith}
use lib.Dec.{leb}
use lib.ListN.{length, drop}
use lib.Seq.{take_at}
use Rattle.octets.specs.Bytes.{Bytes}
use Rattle.std.specs.Prelude.{if◌then◌else◌, Result, Ok, Err}
use Rattle.octets.specs.Write.{over}
use Rattle.refusal.specs.declared.Refusal.{Refusal}
use Rattle.refusal.specs.declared.Refusal.TheVariants.{BufferTooSmall}
use Rattle.session.specs.declared.Session.{Session}
use Rattle.session.specs.Opening.{Opened}
use Rattle.session_bytes.specs.Saved.{session_size, encode}
use Rattle.session_bytes.specs.Lengths.{Lengths}
use Rattle.session_bytes.proofs.SessionLengths.{encode_long}
use Rattle.message_answer.specs.Answer.{Answer, refused, gave, require◌else◌⨾◌, buffer}
use Rattle.capi_values.specs.Values.{number_of}
use Rattle.refusal.proofs.Numbers.{number_suc}
use Rattle.capi_open.specs.Call.{Left, saved, opened_as, leaves, leaves_opened}
use Rattle.demand_capi.specs.Calls.{opened}

record IsOpened (a : Result (Unit {0}) Refusal) (s : Session) (answer : Answer Bytes) : Type 0 where
  pub done : a ≡ Ok tt
  pub bytes : answer ≡ gave (encode s)

opened_is : (a : Result (Unit {0}) Refusal) (s : Session) (room : ℕ) → number_of (opened_as a s room) ≡ 0 → IsOpened a s (opened_as a s room)
unfolding opened_as saved require◌else◌⨾◌
opened_is (Ok tt) s room = go (leb session_size room)
  where
    go : (t : Bool) → number_of (if t then gave (encode s) else refused (BufferTooSmall session_size)) ≡ 0
        → IsOpened (Ok tt) s (if t then gave (encode s) else refused (BufferTooSmall session_size))
    go true e = record { done = refl; bytes = refl }
    go false e = let o : ⊥ = omega (arith, e) in absurd o
opened_is (Err r) s room = λ e. let n = number_suc r in let o : ⊥ = omega (arith, n.1, e) in absurd o

module _ (o : Opened) (before : Bytes) (l : Left) (is : l ≡ leaves_opened before o) (done : l.number ≡ 0) where
  told : IsOpened o.answer o.next (opened_as o.answer o.next (length before))
  told = opened_is o.answer o.next (length before) (sym (ap (λ (x : Left). x.number) is) ∙ done)

  pub was_opened : o.answer ≡ Ok tt
  was_opened = told.done

  -- what stands at the start of the buffer then
  pub left_by_opening : Lengths o.next → opened l ≡ encode o.next
  unfolding buffer over
  left_by_opening lengths =
      ap opened (is ∙ ap (leaves before) told.bytes)
      ∙ take_at (encode o.next) (drop (length (encode o.next)) before) session_size (encode_long o.next lengths)
