-- InvMixColumns undoes MixColumns, and MixColumns makes bytes of bytes.
use mathlib.Core.Path.{◌≡◌, ap₂, ◌∙◌}
use Prim.Native.Nat.{ℕ, zero, suc, ◌/◌, ◌%◌, ◌<◌}
use native.Mathlib.Omega.{arith}
use lib.Dec.{eqb, lit<}
use lib.ListN.{get_or, length}
use Rattle.octets.specs.Bytes.{◌⊕◌}
use Rattle.std.specs.Prelude.{if◌then◌else◌}
use Rattle.octets.proofs.ListsOfFour.{four}
use Rattle.octets.proofs.Tabulate.{tabulate_get_d}
use Rattle.octets.proofs.Xor.{xor_byte}
use Rattle.aes_gf.specs.Field.{product, ◌•◌}
use Rattle.aes_mix_columns.specs.MixColumn.{Column, mix_column, inv_mix_column}
use Rattle.aes_gf.proofs.XTimes.{times_byte}
use Rattle.aes_mix_columns.proofs.Sums.{Sum, byte, none, plus, by_x, equal}

-- ---- products

abbrev products : ℕ → ℕ → Sum → Sum
products zero b a = none
products (suc n) b a = plus (if eqb (b % 2) 1 then a else none) (products n (b / 2) (by_x a))

-- b • a
abbrev by : ℕ → Sum → Sum
by b a = products 8 b a

-- ---- a row of products

pub sum : {a b c d a' b' c' d' : ℕ} → a ≡ a' → b ≡ b' → c ≡ c' → d ≡ d' → a ⊕ b ⊕ c ⊕ d ≡ a' ⊕ b' ⊕ c' ⊕ d'
sum p q r s = ap₂ ◌⊕◌ (ap₂ ◌⊕◌ (ap₂ ◌⊕◌ p q) r) s

-- ---- InvMixColumns undoes MixColumns

abbrev row : ℕ → ℕ → ℕ → ℕ → Sum → Sum → Sum → Sum → Sum
row k0 k1 k2 k3 a b c d = plus (plus (plus (by k0 a) (by k1 b)) (by k2 c)) (by k3 d)

abbrev mixed : (Sum → Sum → Sum → Sum → Sum) → Sum
mixed f =
    f (plus (plus (plus (by 2 (byte 0)) (by 3 (byte 1))) (byte 2)) (byte 3))
    (plus (plus (plus (byte 0) (by 2 (byte 1))) (by 3 (byte 2))) (byte 3))
    (plus (plus (plus (byte 0) (byte 1)) (by 2 (byte 2))) (by 3 (byte 3)))
    (plus (plus (plus (by 3 (byte 0)) (byte 1)) (byte 2)) (by 2 (byte 3)))

pub inv_mix_column-mix_column : (s : Column) → length s ≡ 4 → inv_mix_column (mix_column s) ≡ s
unfolding product ◌•◌ mix_column inv_mix_column
inv_mix_column-mix_column s h =
    let ρ : ℕ → ℕ = λ i. get_or s i 0 in
    four
    (equal ρ 4 (mixed (row 0x0e 0x0b 0x0d 0x09)) (byte 0) tt)
    (equal ρ 4 (mixed (row 0x09 0x0e 0x0b 0x0d)) (byte 1) tt)
    (equal ρ 4 (mixed (row 0x0d 0x09 0x0e 0x0b)) (byte 2) tt)
    (equal ρ 4 (mixed (row 0x0b 0x0d 0x09 0x0e)) (byte 3) tt)
    ∙ tabulate_get_d 0 4 s h

-- ---- MixColumns makes bytes of bytes

pub mix_column_byte : (a : Column) → ((r : ℕ) → r < 4 → get_or a r 0 < 256) → (r : ℕ) → r < 4 → get_or (mix_column a) r 0 < 256
unfolding mix_column
mix_column_byte a h r hr = row r hr
  where
    a0 : ℕ
    a0 = get_or a 0 0

    a1 : ℕ
    a1 = get_or a 1 0

    a2 : ℕ
    a2 = get_or a 2 0

    a3 : ℕ
    a3 = get_or a 3 0

    sum : (w x y z : ℕ) → w < 256 → x < 256 → y < 256 → z < 256 → w ⊕ x ⊕ y ⊕ z < 256
    sum w x y z hw hx hy hz = xor_byte (w ⊕ x ⊕ y) z (xor_byte (w ⊕ x) y (xor_byte w x hw hx) hy) hz

    row : (r : ℕ) → r < 4 → get_or (mix_column a) r 0 < 256
    row zero k = sum (2 • a0) (3 • a1) a2 a3 (times_byte 2 a0 (h 0 (lit< tt))) (times_byte 3 a1 (h 1 (lit< tt))) (h 2 (lit< tt)) (h 3 (lit< tt))
    row (suc zero) k = sum a0 (2 • a1) (3 • a2) a3 (h 0 (lit< tt)) (times_byte 2 a1 (h 1 (lit< tt))) (times_byte 3 a2 (h 2 (lit< tt))) (h 3 (lit< tt))
    row (suc (suc zero)) k = sum a0 a1 (2 • a2) (3 • a3) (h 0 (lit< tt)) (h 1 (lit< tt)) (times_byte 2 a2 (h 2 (lit< tt))) (times_byte 3 a3 (h 3 (lit< tt)))
    row (suc (suc (suc zero))) k = sum (3 • a0) a1 a2 (2 • a3) (times_byte 3 a0 (h 0 (lit< tt))) (h 1 (lit< tt)) (h 2 (lit< tt)) (times_byte 2 a3 (h 3 (lit< tt)))
    row (suc (suc (suc (suc n)))) k = let z : ⊥ = omega arith in absurd z
