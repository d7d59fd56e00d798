-- A well-formed fragment is its data and its status word behind it.
use mathlib.Core.Path.{◌≡◌, sym, ap, ◌∙◌}
use mathlib.Core.Bool.{Bool, true, false, ◌&&◌, ◌||◌, not}
use mathlib.Core.List.{[], ◌∷◌, ◌++◌, append_assoc}
use Prim.Native.Nat.{ℕ, suc, ◌≤◌}
use native.Mathlib.Numerals.{add-one}
use native.Mathlib.Omega.{arith}
use borrow.Author.Tests.{leb-true, eq-eqb, eqb-true}
use lib.Dec.{leb}
use lib.ListN.{length, get_or, take}
use lib.Seq.{length-take-le, take_all, take-suc}
use Rattle.octets.specs.Bytes.{Bytes}
use Rattle.octets.proofs.Tests.{both}
use Rattle.message_answer.specs.Message.{more_sw1}
use Rattle.chain_response.specs.Reassembly.{data_length, data_of, status_of, is_more, well_formed}
use Rattle.chain_response.specs.Chains.{ExactShapes, WrittenAreWellFormed}
use Rattle.chain_response.proofs.WrittenFragment.{written_well_formed}

-- some bytes and the last two
with_two : (xs : Bytes) (n : ℕ) → length xs ≡ suc (suc n) → xs ≡ take n xs ++ get_or xs n 0 ∷ get_or xs (suc n) 0 ∷ []
with_two xs n e =
    sym (take_all (suc (suc n)) xs (omega arith))
    ∙ take-suc xs (suc n) 0 (omega arith)
    ∙ ap (λ (l : Bytes). l ++ get_or xs (suc n) 0 ∷ []) (take-suc xs n 0 (omega arith))
    ∙ append_assoc (take n xs) (get_or xs n 0 ∷ []) (get_or xs (suc n) 0 ∷ [])

-- where more follow there is data
needs_data : (more some : Bool) → (not more || some) ≡ true → more ≡ true → some ≡ true
needs_data true some h e = h
needs_data false some h e = let z : ◌≡◌ {A = ℕ} 0 1 = cc in let o : ⊥ = omega arith in absurd o

pub exact_shapes : ExactShapes
unfolding well_formed is_more
exact_shapes bytes w =
    let p = both (leb 2 (length bytes) && (not (is_more bytes) || leb 1 (data_length bytes))) (leb (data_length bytes) 256) w in
    let q = both (leb 2 (length bytes)) (not (is_more bytes) || leb 1 (data_length bytes)) p.0 in
    let least : 2 ≤ length bytes = leb-true 2 (length bytes) q.0 in
    let most : data_length bytes ≤ 256 = leb-true (data_length bytes) 256 p.1 in
    let size : length (data_of bytes) ≡ data_length bytes = length-take-le (data_length bytes) bytes (omega arith) in
    let two : bytes ≡ data_of bytes ++ get_or bytes (data_length bytes) 0 ∷ get_or bytes (suc (data_length bytes)) 0 ∷ [] = with_two bytes (data_length bytes) (omega arith) in (
      two ∙ ap (λ (n : ℕ). data_of bytes ++ get_or bytes (data_length bytes) 0 ∷ get_or bytes n 0 ∷ []) (sym (add-one (data_length bytes))),
      omega arith,
      λ e. omega (arith, leb-true 1 (data_length bytes) (needs_data (is_more bytes) (leb 1 (data_length bytes)) q.1 (eq-eqb (status_of bytes).sw1 more_sw1 e))),
    )

pub written_are_well_formed : WrittenAreWellFormed
written_are_well_formed d sw1 sw2 some small = written_well_formed d sw1 sw2 (λ e. some (eqb-true sw1 more_sw1 e)) small
