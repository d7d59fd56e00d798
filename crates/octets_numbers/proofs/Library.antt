-- The library's numbers in two and four bytes are those of the definitions.
use Rattle.std.proofs.Common.{◌≡◌, ℕ, [], ◌∷◌, length, w16, w32, arith, refl}
use Rattle.std.specs.Int.{from_be_bytes, to_be_bytes}
use Rattle.octets.specs.Bytes.{Bytes}
use Rattle.octets.proofs.ListsOfFour.{four}
use Rattle.octets_numbers.specs.BigEndian.{big_endian, number_from, number_in}

pub two_bytes : (xs : Bytes) → length xs ≡ 2 → from_be_bytes w16 xs ≡ number_in xs
unfolding number_in number_from
two_bytes [] h = let z : ⊥ = omega (arith, h) in absurd z
two_bytes (a ∷ []) h = let z : ⊥ = omega (arith, h) in absurd z
two_bytes (a ∷ b ∷ []) h = omega arith
two_bytes (a ∷ b ∷ c ∷ xs) h = let z : ⊥ = omega (arith, h) in absurd z

pub four_bytes : (xs : Bytes) → length xs ≡ 4 → from_be_bytes w32 xs ≡ number_in xs
unfolding number_in number_from
four_bytes [] h = let z : ⊥ = omega (arith, h) in absurd z
four_bytes (a ∷ []) h = let z : ⊥ = omega (arith, h) in absurd z
four_bytes (a ∷ b ∷ []) h = let z : ⊥ = omega (arith, h) in absurd z
four_bytes (a ∷ b ∷ c ∷ []) h = let z : ⊥ = omega (arith, h) in absurd z
four_bytes (a ∷ b ∷ c ∷ d ∷ []) h = omega arith
four_bytes (a ∷ b ∷ c ∷ d ∷ e ∷ xs) h = let z : ⊥ = omega (arith, h) in absurd z

pub bytes_of_four : (n : ℕ) → to_be_bytes w32 n ≡ big_endian 4 n
unfolding big_endian
bytes_of_four n = four (omega arith) (omega arith) (omega arith) refl
