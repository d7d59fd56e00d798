-- A response field, asked for fragment by fragment, is whole after ⌈F / 256⌉ of them: after k its first k·256 bytes stand in the buffer, and the number
-- that was announced asks for the next.
-- Assumes nothing.
use mathlib.Core.Path.{◌≡◌, refl, sym, ap, ap₂, ◌∙◌}
use mathlib.Core.Bool.{Bool, true, false}
use mathlib.Core.List.{List, [], ◌∷◌, ◌++◌}
use Prim.Native.Nat.{ℕ, zero, suc, ◌+◌, ◌*◌, ◌-◌, ◌≤◌, ◌<◌}
use native.Mathlib.Nat.{add-zero, zero-add, add-suc, suc-add, suc-mul}
use native.Mathlib.Omega.{arith}
use borrow.Author.Tests.{eq-eqb, ne_eqb, le-leb, lt-leb, not-true}
use lib.Dec.{eqb}
use lib.ListN.{length, take, drop, length-drop, take-append-drop}
use lib.Seq.{length-take-le, take_all, take-add}
use Rattle.octets.specs.Bytes.{Bytes, tabulate}
use Rattle.octets.specs.Write.{over, put}
use Rattle.octets.proofs.ByteStrings.{by_test}
use Rattle.octets.proofs.Tabulate.{tabulate_ext}
use Rattle.octets.proofs.Writing.{over_nil, length_over, put_over}
use Rattle.std.specs.Prelude.{Result, Ok}
use Rattle.apdu.specs.declared.StatusWord.{StatusWord}
use Rattle.apdu.specs.Apdu.{status}
use Rattle.refusal.specs.declared.Refusal.{Refusal}
use Rattle.message_answer.specs.Message.{max_response_field, more_sw1}
use Rattle.message_permission.specs.Permission.{status_permitted}
use Rattle.chain_parts.specs.Parts.{ceiling}
use Rattle.chain_parts.proofs.Ceiling.{starts_within, below_ceiling, ends_with_last}
use Rattle.chain_response.specs.Fragment.{longest_field, asked, announced, fragment_data, fragment_status, next, fragment}
use Rattle.chain_response.specs.Reassembly.{ResponseReassembly, empty, chain, possible, taken, reassemble_response, reassembly_buffer, get_response}
use Rattle.chain_response.specs.Chains.{Reassembled, le_after, requests, answers_to, Reassembles}
use Rattle.chain_response.specs.declared.ResponseChain.{ResponseChain}
use Rattle.chain_response.specs.declared.ResponsePart.{ResponsePart}
use Rattle.chain_response.specs.declared.ResponsePart.TheVariants.{More, Whole}
use Rattle.chain_response.proofs.WrittenFragment.{taken_answer, taken_data}

-- one request, and the rest
one_more : (sw : StatusWord) (field : Bytes) (n at le : ℕ) (c : ResponseChain) (held bytes : Bytes) (r : ResponseReassembly) (behind : ℕ) (held' : Bytes) (rest : Reassembled)
    → fragment sw field at le ≡ bytes → next field at le ≡ behind
    → reassemble_response c bytes (length held) ≡ r → reassembly_buffer c bytes held ≡ held'
    → requests sw field n behind (le_after r.answer) r.next held' ≡ rest
    → requests sw field (suc n) at le c held ≡ record { indices = at ∷ rest.indices; answers = r.answer ∷ rest.answers; chain = rest.chain; held = rest.held }
unfolding requests
one_more sw field n at le c held bytes r behind held' rest b e f g h = rw (b, e, f, g, h)

module _ (sw : StatusWord) (field held : Bytes) (permitted : status_permitted sw ≡ true) (short : length field ≤ longest_field)
    (fits : length field ≤ length held) where
  abbrev part : ℕ → Bytes
  part k = take 256 (drop (k * 256) field)

  -- what m more fragments and then the last give, after k of them
  abbrev left : ℕ → ℕ → Reassembled
  left m k =
      record {
        indices = tabulate (suc m) (λ i. (k + i) * 256);
        answers = tabulate m (λ i. Ok (More (suc (k + i) * 256) (announced (length field - suc (k + i) * 256)))) ++ Ok (Whole (length field) sw) ∷ [];
        chain = empty;
        held = over held field;
      }

  within : (k : ℕ) → k < ceiling (length field) 256 → k * 256 < length field
  within k l = starts_within (length field) 256 k (omega arith) l

  -- the number that was announced asks for the next part
  announced_asks : (k : ℕ) → k * 256 < length field → fragment_data field (k * 256) (announced (length field - k * 256)) ≡ part k
  unfolding fragment_data asked announced
  announced_asks k w =
      let n = length (drop (k * 256) field) in
      let e : n ≡ length field - k * 256 = length-drop (k * 256) field in
      by_test 255 (length field - k * 256)
      (λ (h : 255 < length field - k * 256). rw (lt-leb (length field - k * 256) 255 h))
      (λ (h : length field - k * 256 ≤ 255).
      rw (le-leb (length field - k * 256) 255 h, ne_eqb (length field - k * 256) 0 (λ z. omega arith))
      (take_all (length field - k * 256) (drop (k * 256) field) (omega arith) ∙ sym (take_all 256 (drop (k * 256) field) (omega arith))))

  module _ (k le : ℕ) (w : k * 256 < length field) (asks : fragment_data field (k * 256) le ≡ part k) where
    last_bytes : length field ≤ k * 256 + 256 → part k ≡ drop (k * 256) field
    last_bytes ends = take_all 256 (drop (k * 256) field) (simp length-drop (omega arith))

    next_is : (n : ℕ) → k * 256 + length (part k) ≡ n → next field (k * 256) le ≡ n
    unfolding next
    next_is n e = ap (λ (d : Bytes). k * 256 + length d) asks ∙ e

    fragment_is : (n : ℕ) → k * 256 + length (part k) ≡ n → fragment sw field (k * 256) le ≡ part k ++ fragment_status sw (length field - n)
    unfolding fragment
    fragment_is n e = ap₂ (λ (d : Bytes) (m : ℕ). d ++ fragment_status sw (length field - m)) asks (next_is n e)

    room : length (over held (take (k * 256) field)) ≡ length held
    room = length_over held (take (k * 256) field) (omega (arith, length-take-le (k * 256) field (omega arith)))

    -- the next part of the field stands behind the part before it
    behind : (d : Bytes) → put (over held (take (k * 256) field)) (k * 256) d ≡ over held (take (k * 256) field ++ d)
    behind d = put_over held (take (k * 256) field) d (k * 256) (sym (length-take-le (k * 256) field (omega arith)))

    led : possible (chain (k * 256)) ≡ true
    unfolding possible
    led = le-leb (k * 256) max_response_field (omega arith)

    -- a fragment with the status word a b, with which n bytes stand there
    taken_then : (m n a b : ℕ) (more : Bool) (rest : Reassembled) → k * 256 + length (part k) ≡ n → n ≤ length field → 1 ≤ length (part k)
        → length (part k) ≤ 256 → fragment_status sw (length field - n) ≡ a ∷ b ∷ [] → eqb a more_sw1 ≡ more
        → requests sw field m n (le_after (taken (status a b) n more).answer) (taken (status a b) n more).next (over held (take (k * 256) field ++ part k)) ≡ rest
        → requests sw field (suc m) (k * 256) le (chain (k * 256)) (over held (take (k * 256) field))
        ≡ record { indices = k * 256 ∷ rest.indices; answers = (taken (status a b) n more).answer ∷ rest.answers; chain = rest.chain; held = rest.held }
    taken_then m n a b more rest e inField some small s t g =
        let inRoom : k * 256 + length (part k) ≤ length (over held (take (k * 256) field)) = omega (arith, room) in
        one_more sw field m (k * 256) le (chain (k * 256)) _ (part k ++ a ∷ b ∷ []) (taken (status a b) n more) n _ rest
        (fragment_is n e ∙ ap (λ (t : Bytes). part k ++ t) s)
        (next_is n e)
        (taken_answer (chain (k * 256)) (part k) a b led (λ _. some) small (omega arith) _ inRoom ∙ ap₂ (λ (j : ℕ) (x : Bool). taken (status a b) j x) e t)
        (taken_data (chain (k * 256)) (part k) a b led (λ _. some) small (omega arith) _ inRoom ∙ behind (part k))
        g

    none_left : fragment_status sw (length field - length field) ≡ sw.sw1 ∷ sw.sw2 ∷ []
    unfolding fragment_status
    none_left = rw (eq-eqb (length field - length field) 0 (omega arith))

    some_left : (n : ℕ) → n < length field → fragment_status sw (length field - n) ≡ more_sw1 ∷ announced (length field - n) ∷ []
    unfolding fragment_status
    some_left n h = rw (ne_eqb (length field - n) 0 (λ e. omega arith))

    last_one : suc k ≡ ceiling (length field) 256
        → requests sw field 1 (k * 256) le (chain (k * 256)) (over held (take (k * 256) field)) ≡ left 0 k
    unfolding taken requests status_permitted
    last_one e =
        let ends : length field ≤ k * 256 + 256 = ends_with_last (length field) 256 k (omega arith) e in
        let size : length (part k) ≡ length field - k * 256 = ap length (last_bytes ends) ∙ length-drop (k * 256) field in
        let whole : take (k * 256) field ++ part k ≡ field = ap (λ (d : Bytes). take (k * 256) field ++ d) (last_bytes ends) ∙ take-append-drop (k * 256) field in
        taken_then 0 (length field) sw.sw1 sw.sw2 false (record { indices = []; answers = []; chain = empty; held = over held field }) (omega arith) (omega arith) (omega arith)
        (omega arith) none_left (not-true (eqb sw.sw1 more_sw1) permitted)
        (ap (λ (b : Bytes). record { indices = []; answers = []; chain = empty; held = over held b }) whole)
        ∙ ap (λ (j : ℕ). record { indices = j * 256 ∷ []; answers = Ok (Whole (length field) sw) ∷ []; chain = empty; held = over held field }) (sym (add-zero k))

    next_one : (m : ℕ) → suc k < ceiling (length field) 256
        → requests sw field (suc m) (suc k * 256) (announced (length field - suc k * 256)) (chain (suc k * 256)) (over held (take (suc k * 256) field)) ≡ left m (suc k)
        → requests sw field (suc (suc m)) (k * 256) le (chain (k * 256)) (over held (take (k * 256) field)) ≡ left (suc m) k
    unfolding taken get_response
    next_one m l g =
        let v : suc k * 256 < length field = within (suc k) l in
        let size : length (part k) ≡ 256 = length-take-le 256 (drop (k * 256) field) (simp length-drop (omega (arith, suc-mul k 256))) in
        let bytes : take (k * 256) field ++ part k ≡ take (suc k * 256) field = sym (take-add (k * 256) 256 field) ∙ ap (λ (n : ℕ). take n field) (sym (suc-mul k 256)) in
        taken_then (suc m) (suc k * 256) more_sw1 (announced (length field - suc k * 256)) true (left m (suc k)) (omega (arith, suc-mul k 256)) (omega arith) (omega arith)
        (omega arith) (some_left (suc k * 256) v) refl
        (ap (λ (b : Bytes). requests sw field (suc m) (suc k * 256) (announced (length field - suc k * 256)) (chain (suc k * 256)) (over held b)) bytes ∙ g)
        ∙ ap (λ (l : List ℕ). record { indices = k * 256 ∷ l; answers = Ok (More (suc k * 256) (announced (length field - suc k * 256))) ∷ (left m (suc k)).answers; chain = empty; held = over held field })
        (tabulate_ext (suc m) (λ i b. ap (λ (j : ℕ). j * 256) (suc-add k i ∙ sym (add-suc k i))))
        ∙ ap₂ (λ (j : ℕ) (l : List (Result ResponsePart Refusal)). record { indices = j * 256 ∷ tabulate (suc m) (λ i. (k + suc i) * 256); answers = Ok (More (suc j * 256) (announced (length field - suc j * 256))) ∷ l ++ Ok (Whole (length field) sw) ∷ []; chain = empty; held = over held field })
        (sym (add-zero k))
        (tabulate_ext m (λ i b. ap (λ (j : ℕ). Ok (More (suc j * 256) (announced (length field - suc j * 256)))) (suc-add k i ∙ sym (add-suc k i))))

  go : (m k le : ℕ) → k + suc m ≡ ceiling (length field) 256 → fragment_data field (k * 256) le ≡ part k
      → requests sw field (suc m) (k * 256) le (chain (k * 256)) (over held (take (k * 256) field)) ≡ left m k
  go zero k le e asks = last_one k le (within k (omega arith)) asks (omega arith)
  go (suc m) k le e asks =
      let l : suc k < ceiling (length field) 256 = omega arith in
      next_one k le (within k (omega arith)) asks m l
      (go m (suc k) (announced (length field - suc k * 256)) (omega arith) (announced_asks (suc k) (within (suc k) l)))

-- all of them, from an empty chain; the first request asks for 256 bytes
first_asks : (field : Bytes) → fragment_data field 0 0x00 ≡ take 256 field
unfolding fragment_data asked
first_asks field = refl

pub reassembles : Reassembles
unfolding answers_to
reassembles sw field held permitted some short fits =
    let n = ceiling (length field) 256 in
    let positive : 0 < n = below_ceiling (length field) 256 0 (omega arith) (omega arith) in
    let count : n ≡ suc (n - 1) = omega arith in
    ap₂ (λ (m : ℕ) (b : Bytes). requests sw field m 0 0x00 empty b) count (sym (over_nil held))
    ∙ go sw field held permitted short fits (n - 1) 0 0x00 (zero-add (suc (n - 1)) ∙ sym count) (first_asks field)
    ∙ ap (λ (l : List ℕ). record { indices = l; answers = (left sw field held permitted short fits (n - 1) 0).answers; chain = empty; held = over held field })
    (ap (λ (m : ℕ). tabulate m (λ i. (0 + i) * 256)) (sym count) ∙ tabulate_ext n (λ i b. ap (λ (j : ℕ). j * 256) (zero-add i)))
    ∙ ap (λ (l : List (Result ResponsePart Refusal)). record { indices = tabulate n (λ k. k * 256); answers = l ++ Ok (Whole (length field) sw) ∷ []; chain = empty; held = over held field })
    (tabulate_ext (n - 1) (λ i b. ap (λ (j : ℕ). Ok (More (suc j * 256) (announced (length field - suc j * 256)))) (zero-add i)))
