-- What fragmenting and reassembling leave of the caller's buffer where they do not refuse, of the functions, from their definitions.
-- Assumes nothing.
use mathlib.Core.Path.{◌≡◌, refl, ap, ◌∙◌}
use mathlib.Core.Bool.{Bool, true, false, ◌&&◌}
use mathlib.Core.List.{◌++◌, append_assoc}
use Prim.Native.Nat.{ℕ, ◌+◌, ◌≤◌}
use native.Mathlib.Omega.{arith}
use borrow.Author.Tests.{leb-true}
use lib.Dec.{leb}
use lib.ListN.{length, take, drop, length-append, length-drop}
use lib.Seq.{length-take-le, drop-append_seam, take_at, drop_at}
use Rattle.octets.specs.Bytes.{Bytes}
use Rattle.octets.specs.Write.{over, put}
use Rattle.refusal.specs.declared.Refusal.{Refusal}
use Rattle.refusal.specs.declared.Refusal.TheVariants.{TooLong, BufferTooSmall, Malformed, BrokenChain}
use Rattle.std.specs.Prelude.{Result, Err}
use Rattle.apdu.specs.declared.Header.{Header}
use Rattle.apdu.specs.declared.StatusWord.{StatusWord}
use Rattle.message_answer.specs.Message.{max_command_field, max_response_field}
use Rattle.message_answer.specs.Answer.{Answer, refused, gave, buffer}
use Rattle.message_answer.proofs.Required.{require_gave}
use Rattle.chain_command.specs.Apdu.{header_of, lc, data_of, is_last, well_formed}
use Rattle.chain_command.specs.Fragment.{fragment_answer}
use Rattle.chain_command.specs.Reassembly.{Reassembly, possible, continues, total, reassembly_checks, taken, concluded, reassemble_command, written, reassembly_buffer}
use Rattle.chain_command.specs.declared.CommandChain.{CommandChain}
use Rattle.chain_reassemble_command.proofs.Shapes.{holds_data}
use Rattle.chain_response.specs.Fragment.{fragment_answer as responseFragmentAnswer}
use Rattle.chain_response.specs.Reassembly.{ResponseReassembly, status_of, is_more, data_length, data_of as responseData, well_formed as responseWellFormed, possible as responsePossible, total as responseTotal, reassembly_checks as responseChecks, taken as response_taken, concluded as responseConcluded, reassemble_response, written as response_written, reassembly_buffer as responseBuffer}
use Rattle.chain_response.specs.declared.ResponseChain.{ResponseChain}
use Rattle.chain_response.specs.declared.ResponseFragment.{ResponseFragment}
use Rattle.capi_values.specs.Values.{wrap_values}
use Rattle.capi_values.specs.ChainingValues.{reassembly_values, response_fragment_values, response_reassembly_values}
use Rattle.demand_chaining.specs.RefusalKeeps.{fragments_command, reassembles_command, fragments_response, reassembles_response, RestKeeps}

-- ---- written at the start, and behind what stands there

over_rest : (xs ys : Bytes) → drop (length ys) (over xs ys) ≡ drop (length ys) xs
unfolding over
over_rest xs ys = drop-append_seam ys (drop (length ys) xs)

module _ (xs : Bytes) (at n : ℕ) (ys : Bytes) (size : length ys ≡ n) (within : at ≤ length xs) where
  put_before : take at (put xs at ys) ≡ take at xs
  unfolding put
  put_before =
      ap (take at) (append_assoc (take at xs) ys (drop (at + length ys) xs))
      ∙ take_at (take at xs) (ys ++ drop (at + length ys) xs) at (length-take-le at xs within)

  put_rest : drop (at + n) (put xs at ys) ≡ drop (at + n) xs
  unfolding put
  put_rest =
      let front : length (take at xs ++ ys) ≡ at + n = length-append (take at xs) ys ∙ omega (arith, length-take-le at xs within) in
      drop_at (take at xs ++ ys) (drop (at + length ys) xs) (at + n) front
      ∙ ap (λ (k : ℕ). drop (at + k) xs) size

-- ---- fragmenting

fragment_rest : (result : Result ℕ Refusal) (a : Answer Bytes) (held out : Bytes) → result ≡ fragment_answer a → out ≡ buffer (λ (b : Bytes). b) held a
    → ((q : Refusal) → result ≡ Err q → ⊥)
    → ((wrap_values result).number ≡ 0) × (drop (wrap_values result).len out ≡ drop (wrap_values result).len held)
unfolding buffer
fragment_rest result (refused q) held out e f accepted = absurd (accepted q e)
fragment_rest result (gave b) held out e f accepted = rw (e, f) (refl, over_rest held b)

response_fragment_rest : (result : Result ResponseFragment Refusal) (n : ℕ) (a : Answer Bytes) (held out : Bytes) → result ≡ responseFragmentAnswer n a
    → out ≡ buffer (λ (b : Bytes). b) held a → ((q : Refusal) → result ≡ Err q → ⊥)
    → ((response_fragment_values result).number ≡ 0) × (drop (response_fragment_values result).len out ≡ drop (response_fragment_values result).len held)
unfolding buffer
response_fragment_rest result n (refused q) held out e f accepted = absurd (accepted q e)
response_fragment_rest result n (gave b) held out e f accepted = rw (e, f) (refl, over_rest held b)

-- ---- reassembling

taken_values : (h : Header) (n : ℕ) (last : Bool) → ((reassembly_values (taken h n last).answer).number ≡ 0) × ((reassembly_values (taken h n last).answer).len ≡ n)
unfolding taken
taken_values h n true = (refl, refl)
taken_values h n false = (refl, refl)

response_taken_values : (sw : StatusWord) (n : ℕ) (more : Bool)
    → ((response_reassembly_values (response_taken sw n more).answer).number ≡ 0) × ((response_reassembly_values (response_taken sw n more).answer).len ≡ n)
unfolding response_taken
response_taken_values sw n true = (refl, refl)
response_taken_values sw n false = (refl, refl)

-- what is left of a buffer by an answer of those values
pub record Left (number len start : ℕ) (held out : Bytes) : Type 0 where
  pub number_is : number ≡ 0
  pub start_stays : take start out ≡ take start held
  pub rest_stays : drop len out ≡ drop len held

module _ (c : CommandChain) (apdu held : Bytes) where
  passed : reassembly_checks c apdu (length held) ≡ gave tt → (well_formed apdu ≡ true) × (total c apdu ≤ length held)
  unfolding reassembly_checks
  passed e =
      let formed = require_gave (well_formed apdu) Malformed _ tt e in
      let led = require_gave (possible c && continues c (header_of apdu)) BrokenChain _ tt formed.1 in
      let short = require_gave (leb (total c apdu) max_command_field) TooLong _ tt led.1 in
      let fits = require_gave (leb (total c apdu) (length held)) (BufferTooSmall (total c apdu)) _ tt short.1 in
      (formed.0, leb-true (total c apdu) (length held) fits.0)

  reassembly_rest : (result : Reassembly) (out : Bytes) (a : Answer (Unit {0})) → reassembly_checks c apdu (length held) ≡ a
      → result ≡ concluded c apdu a → out ≡ written c apdu held a → ((q : Refusal) → result.answer ≡ Err q → ⊥)
      → Left (reassembly_values result.answer).number (reassembly_values result.answer).len c.len held out
  unfolding concluded written
  reassembly_rest result out (refused q) t e f accepted = absurd (accepted q (ap (λ (x : Reassembly). x.answer) e))
  reassembly_rest result out (gave u) t e f accepted =
      let p = passed t in
      let room = p.1 in
      let v = taken_values (header_of apdu) (total c apdu) (is_last apdu) in
      let size : length (data_of apdu) ≡ lc apdu = length-take-le (lc apdu) (drop 5 apdu) (omega (arith, length-drop 5 apdu, holds_data apdu p.0)) in
      rw (e, f, v.0, v.1)
      (record {
        number_is = refl;
        start_stays = put_before held c.len (lc apdu) (data_of apdu) size (omega arith);
        rest_stays = put_rest held c.len (lc apdu) (data_of apdu) size (omega arith);
      })

module _ (c : ResponseChain) (bytes held : Bytes) where
  response_passed : responseChecks c bytes (length held) ≡ gave tt → (responseTotal c bytes ≤ length held)
  unfolding responseChecks
  response_passed e =
      let formed = require_gave (responseWellFormed bytes) Malformed _ tt e in
      let led = require_gave (responsePossible c) BrokenChain _ tt formed.1 in
      let short = require_gave (leb (responseTotal c bytes) max_response_field) TooLong _ tt led.1 in
      let fits = require_gave (leb (responseTotal c bytes) (length held)) (BufferTooSmall (responseTotal c bytes)) _ tt short.1 in
      leb-true (responseTotal c bytes) (length held) fits.0

  response_reassembly_rest : (result : ResponseReassembly) (out : Bytes) (a : Answer (Unit {0})) → responseChecks c bytes (length held) ≡ a
      → result ≡ responseConcluded c bytes a → out ≡ response_written c bytes held a → ((q : Refusal) → result.answer ≡ Err q → ⊥)
      → Left (response_reassembly_values result.answer).number (response_reassembly_values result.answer).len c.len held out
  unfolding responseConcluded response_written
  response_reassembly_rest result out (refused q) t e f accepted = absurd (accepted q (ap (λ (x : ResponseReassembly). x.answer) e))
  response_reassembly_rest result out (gave u) t e f accepted =
      let room = response_passed t in
      let v = response_taken_values (status_of bytes) (responseTotal c bytes) (is_more bytes) in
      let size : length (responseData bytes) ≡ data_length bytes = length-take-le (data_length bytes) bytes (omega arith) in
      rw (e, f, v.0, v.1)
      (record {
        number_is = refl;
        start_stays = put_before held c.len (data_length bytes) (responseData bytes) size (omega arith);
        rest_stays = put_rest held c.len (data_length bytes) (responseData bytes) size (omega arith);
      })

pub rest_keeps : RestKeeps
unfolding reassemble_command reassembly_buffer reassemble_response responseBuffer
rest_keeps (fragments_command f) accepted =
    let r = fragment_rest f.result _ _ _ f.met.0 f.met.1 accepted in
    record { number_is = r.0; start_stays = refl; rest_stays = r.1 }
rest_keeps (reassembles_command r) accepted =
    let l = reassembly_rest r.args.0 _ _ r.result _ _ refl r.met.0 r.met.1 accepted in
    record { number_is = l.number_is; start_stays = l.start_stays; rest_stays = l.rest_stays }
rest_keeps (fragments_response f) accepted =
    let r = response_fragment_rest f.result _ _ _ _ f.met.0 f.met.1 accepted in
    record { number_is = r.0; start_stays = refl; rest_stays = r.1 }
rest_keeps (reassembles_response r) accepted =
    let l = response_reassembly_rest r.args.0 _ _ r.result _ _ refl r.met.0 r.met.1 accepted in
    record { number_is = l.number_is; start_stays = l.start_stays; rest_stays = l.rest_stays }
