-- A well-formed APDU is the writing of its header and its data: one case for each shape.
use mathlib.Core.Path.{◌≡◌, refl, sym, ap, ◌∙◌}
use mathlib.Core.Bool.{Bool, true, false, ◌&&◌, ◌||◌}
use mathlib.Core.List.{[], ◌∷◌, ◌++◌}
use Prim.Native.Nat.{ℕ, suc, ◌+◌, ◌≤◌}
use native.Mathlib.Omega.{arith}
use borrow.Author.Tests.{leb-true, eqb-true}
use lib.Dec.{eqb, leb}
use lib.ListN.{length, get_or, take}
use lib.Seq.{length-take-le, take_all, take-suc, get_or-append-add}
use Rattle.octets.specs.Bytes.{Bytes}
use Rattle.octets.proofs.Tests.{both}
use Rattle.chain_command.specs.Apdu.{last_cla, chained_cla, fragment_apdu, header_of, data_of, is_chained, is_last, well_formed}
use Rattle.chain_command.specs.Chains.{ExactShapes, WrittenAreWellFormed}
use Rattle.chain_command.proofs.WrittenApdu.{written_well_formed}

no_test : {P : Type 0} → false ≡ true → P
no_test e = let z : ◌≡◌ {A = ℕ} 0 1 = cc in let o : ⊥ = omega arith in absurd o

-- n bytes and a last one
with_last : (xs : Bytes) (n : ℕ) → length xs ≡ suc n → xs ≡ take n xs ++ get_or xs n 0 ∷ []
with_last xs n e = sym (take_all (suc n) xs (omega arith)) ∙ take-suc xs n 0 (omega arith)

module _ (a b c d e : ℕ) (rest : Bytes) where
  abbrev apdu : Bytes
  apdu = a ∷ b ∷ c ∷ d ∷ e ∷ rest

  abbrev Shaped : Type 0
  Shaped = apdu ≡ fragment_apdu (is_last apdu) (header_of apdu) (data_of apdu)

  chained_shape : is_chained apdu ≡ true → Shaped × (length (data_of apdu) ≡ e)
  unfolding is_chained is_last fragment_apdu
  chained_shape t =
      let p = both (eqb a chained_cla) (eqb (length apdu) (5 + e)) t in
      let cla : a ≡ chained_cla = eqb-true a chained_cla p.0 in
      let size : length rest ≡ e = let n = eqb-true (length apdu) (5 + e) p.1 in omega arith in
      let whole : take e rest ≡ rest = take_all e rest (omega arith) in
      (rw (whole, size, cla), ap length whole ∙ size)

  last_shape : is_last apdu ≡ true → Shaped × (length (data_of apdu) ≡ e)
  unfolding is_last fragment_apdu
  last_shape t =
      let p = both (eqb a last_cla && eqb (length apdu) (6 + e)) (eqb (get_or apdu (5 + e) 0) 0x00) t in
      let q = both (eqb a last_cla) (eqb (length apdu) (6 + e)) p.0 in
      let cla : a ≡ last_cla = eqb-true a last_cla q.0 in
      let size : length rest ≡ suc e = let n = eqb-true (length apdu) (6 + e) q.1 in omega arith in
      let final : get_or rest e 0 ≡ 0x00 = sym (get_or-append-add (a ∷ b ∷ c ∷ d ∷ e ∷ []) rest e 0) ∙ eqb-true (get_or apdu (5 + e) 0) 0x00 p.1 in
      let part : length (take e rest) ≡ e = length-take-le e rest (omega arith) in
      let whole : rest ≡ take e rest ++ 0x00 ∷ [] = with_last rest e size ∙ ap (λ (x : ℕ). take e rest ++ x ∷ []) final in
      let written : apdu ≡ fragment_apdu true (header_of apdu) (data_of apdu) = λ i. cla i ∷ b ∷ c ∷ d ∷ sym part i ∷ whole i in
      (written ∙ ap (λ (last : Bool). fragment_apdu last (header_of apdu) (data_of apdu)) (sym t), part)

five : (a b c d e : ℕ) (rest : Bytes) → well_formed (a ∷ b ∷ c ∷ d ∷ e ∷ rest) ≡ true
    → Shaped a b c d e rest × (1 ≤ length (data_of (a ∷ b ∷ c ∷ d ∷ e ∷ rest))) × (length (data_of (a ∷ b ∷ c ∷ d ∷ e ∷ rest)) ≤ 255)
unfolding well_formed
five a b c d e rest w =
    let x = a ∷ b ∷ c ∷ d ∷ e ∷ rest in
    let t = both (leb 1 e && leb e 255) (is_chained x || is_last x) w in
    let sizes = both (leb 1 e) (leb e 255) t.0 in
    let s = go (is_chained x) refl t.1 in
    (s.0, omega (arith, s.1, leb-true 1 e sizes.0), omega (arith, s.1, leb-true e 255 sizes.1))
  where
    go : (chained : Bool) → is_chained (a ∷ b ∷ c ∷ d ∷ e ∷ rest) ≡ chained → (chained || is_last (a ∷ b ∷ c ∷ d ∷ e ∷ rest)) ≡ true
        → Shaped a b c d e rest × (length (data_of (a ∷ b ∷ c ∷ d ∷ e ∷ rest)) ≡ e)
    go true f g = chained_shape a b c d e rest f
    go false f g = last_shape a b c d e rest g

pub exact_shapes : ExactShapes
unfolding well_formed
exact_shapes [] w = no_test w
exact_shapes (a ∷ []) w = no_test w
exact_shapes (a ∷ b ∷ []) w = no_test w
exact_shapes (a ∷ b ∷ c ∷ []) w = no_test w
exact_shapes (a ∷ b ∷ c ∷ d ∷ []) w = no_test w
exact_shapes (a ∷ b ∷ c ∷ d ∷ e ∷ rest) w = five a b c d e rest w

pub written_are_well_formed : WrittenAreWellFormed
written_are_well_formed last h d some short = written_well_formed h d last some short
