-- A fragment that was written has one of the two shapes, and reading it gives its header, its data and whether it is the last.
-- Assumes nothing.
use mathlib.Core.Path.{◌≡◌, refl, ap}
use mathlib.Core.Bool.{Bool, true, false, ◌||◌}
use mathlib.Core.List.{[], ◌∷◌, ◌++◌}
use Prim.Native.Nat.{◌+◌, ◌≤◌}
use native.Mathlib.Omega.{arith}
use borrow.Author.Tests.{le-leb, eq-eqb}
use lib.ListN.{length, length-append}
use lib.Seq.{take-length, take-append_seam, get_or_at}
use Rattle.octets.specs.Bytes.{Bytes}
use Rattle.octets.proofs.Tests.{and_intro}
use Rattle.apdu.specs.declared.Header.{Header}
use Rattle.chain_command.specs.Apdu.{last_cla, chained_cla, command_apdu, fragment_apdu, header_of, lc, data_of, is_chained, is_last, well_formed}

module _ (h : Header) (d : Bytes) where
  pub written_header : (last : Bool) → header_of (fragment_apdu last h d) ≡ h
  unfolding fragment_apdu
  written_header true = refl
  written_header false = refl

  pub written_lc : (last : Bool) → lc (fragment_apdu last h d) ≡ length d
  unfolding fragment_apdu
  written_lc true = refl
  written_lc false = refl

  pub written_data : (last : Bool) → data_of (fragment_apdu last h d) ≡ d
  unfolding fragment_apdu
  written_data true = take-append_seam d (0x00 ∷ [])
  written_data false = take-length d

  pub written_last : (last : Bool) → is_last (fragment_apdu last h d) ≡ last
  unfolding fragment_apdu is_last
  written_last true =
      let size : length (command_apdu last_cla h d ++ 0x00 ∷ []) ≡ 6 + length d = simp length-append (omega arith) in
      and_intro refl (and_intro (eq-eqb _ _ size) (eq-eqb _ _ (get_or_at (command_apdu last_cla h d) 0x00 [] 0 (5 + length d) (omega arith))))
  written_last false = refl

  shaped : (last : Bool) → (is_chained (fragment_apdu last h d) || is_last (fragment_apdu last h d)) ≡ true
  unfolding fragment_apdu is_chained
  shaped true = written_last true
  shaped false =
      let chained : is_chained (fragment_apdu false h d) ≡ true = and_intro refl (eq-eqb (length (command_apdu chained_cla h d)) (5 + length d) (omega arith)) in
      ap (λ (b : Bool). b || is_last (fragment_apdu false h d)) chained

  pub written_well_formed : (last : Bool) → 1 ≤ length d → length d ≤ 255 → well_formed (fragment_apdu last h d) ≡ true
  unfolding well_formed
  written_well_formed last some short =
      let n = lc (fragment_apdu last h d) in
      and_intro (and_intro (le-leb 1 n (omega (arith, written_lc last))) (le-leb n 255 (omega (arith, written_lc last)))) (shaped last)
