-- A fragment, data and a status word behind it, is read back; where the tests pass it is taken, and its data stands behind what was there.
-- Assumes nothing.
use mathlib.Core.Path.{◌≡◌, refl, sym, ap, ap₂, ◌∙◌}
use mathlib.Core.Bool.{Bool, true, false, ◌||◌, not}
use mathlib.Core.List.{[], ◌∷◌, ◌++◌}
use Prim.Native.Nat.{ℕ, ◌+◌, ◌≤◌}
use native.Mathlib.Omega.{arith}
use borrow.Author.Tests.{le-leb}
use lib.Dec.{eqb, leb}
use lib.ListN.{length, get_or, length-append}
use lib.Seq.{take_at, get_or_at, get_or-append-add}
use Rattle.octets.specs.Bytes.{Bytes}
use Rattle.octets.specs.Write.{put}
use Rattle.octets.proofs.Tests.{and_intro}
use Rattle.apdu.specs.Apdu.{status}
use Rattle.message_answer.specs.Message.{max_response_field, more_sw1}
use Rattle.message_answer.specs.Answer.{gave, require◌else◌⨾◌}
use Rattle.chain_response.specs.Reassembly.{data_length, data_of, status_of, is_more, well_formed, possible, total, reassembly_checks, taken, concluded, reassemble_response, written, reassembly_buffer}
use Rattle.chain_response.specs.declared.ResponseChain.{ResponseChain}

module _ (d : Bytes) (a b : ℕ) where
  pub written_length : length (d ++ a ∷ b ∷ []) ≡ length d + 2
  written_length = simp length-append (omega arith)

  data_length_lem : data_length (d ++ a ∷ b ∷ []) ≡ length d
  data_length_lem = omega (arith, written_length)

  written_data : data_of (d ++ a ∷ b ∷ []) ≡ d
  written_data = take_at d (a ∷ b ∷ []) _ (sym data_length_lem)

  written_sw1 : (status_of (d ++ a ∷ b ∷ [])).sw1 ≡ a
  written_sw1 = get_or_at d a (b ∷ []) 0 _ (sym data_length_lem)

  written_sw2 : (status_of (d ++ a ∷ b ∷ [])).sw2 ≡ b
  written_sw2 = ap (λ (n : ℕ). get_or (d ++ a ∷ b ∷ []) (n + 1) 0) data_length_lem ∙ get_or-append-add d (a ∷ b ∷ []) 1 0

  written_status : status_of (d ++ a ∷ b ∷ []) ≡ status a b
  written_status = ap₂ (λ (x y : ℕ). status x y) written_sw1 written_sw2

  written_more : is_more (d ++ a ∷ b ∷ []) ≡ eqb a more_sw1
  unfolding is_more
  written_more = ap (λ (x : ℕ). eqb x more_sw1) written_sw1

  -- of a fragment that says that more follow, and of another
  follows_data : (more : Bool) → (more ≡ true → 1 ≤ length d) → (not more || leb 1 (length d)) ≡ true
  follows_data true some = le-leb 1 (length d) (some refl)
  follows_data false some = refl

  pub written_well_formed : (eqb a more_sw1 ≡ true → 1 ≤ length d) → length d ≤ 256 → well_formed (d ++ a ∷ b ∷ []) ≡ true
  unfolding well_formed
  written_well_formed some small =
      and_intro
      (and_intro (le-leb 2 (length (d ++ a ∷ b ∷ [])) (omega (arith, written_length)))
      (ap₂ (λ (more : Bool) (n : ℕ). not more || leb 1 n) written_more data_length_lem ∙ follows_data (eqb a more_sw1) some))
      (le-leb (data_length (d ++ a ∷ b ∷ [])) 256 (omega (arith, written_length)))

-- where the tests pass
checks_pass : (c : ResponseChain) (bytes : Bytes) (room : ℕ) → well_formed bytes ≡ true → possible c ≡ true
    → total c bytes ≤ max_response_field → total c bytes ≤ room → reassembly_checks c bytes room ≡ gave tt
unfolding reassembly_checks require◌else◌⨾◌
checks_pass c bytes room formed led short fits =
    rw (formed, led, le-leb (total c bytes) max_response_field short, le-leb (total c bytes) room fits)

module _ (c : ResponseChain) (d : Bytes) (a b : ℕ) (led : possible c ≡ true) (some : eqb a more_sw1 ≡ true → 1 ≤ length d)
    (small : length d ≤ 256) (short : c.len + length d ≤ max_response_field) where
  passes : (room : ℕ) → c.len + length d ≤ room → reassembly_checks c (d ++ a ∷ b ∷ []) room ≡ gave tt
  passes room fits =
      checks_pass c (d ++ a ∷ b ∷ []) room (written_well_formed d a b some small) led
      (omega (arith, data_length_lem d a b)) (omega (arith, data_length_lem d a b))

  pub taken_answer : (room : ℕ) → c.len + length d ≤ room
      → reassemble_response c (d ++ a ∷ b ∷ []) room ≡ taken (status a b) (c.len + length d) (eqb a more_sw1)
  unfolding reassemble_response concluded
  taken_answer room fits =
      ap (concluded c (d ++ a ∷ b ∷ [])) (passes room fits) ∙ rw (written_status d a b, data_length_lem d a b, written_more d a b)

  pub taken_data : (held : Bytes) → c.len + length d ≤ length held → reassembly_buffer c (d ++ a ∷ b ∷ []) held ≡ put held c.len d
  unfolding reassembly_buffer written
  taken_data held fits =
      ap (written c (d ++ a ∷ b ∷ []) held) (passes (length held) fits) ∙ ap (put held c.len) (written_data d a b)
