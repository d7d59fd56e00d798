-- The bytes of a number and the number in bytes undo each other: what was written reads back as the number, where it fits, and what was
-- read is written as the same bytes. For any number of bytes; the counters, the saved session and the demands use it.
use mathlib.Core.Path.{◌≡◌, refl, sym, ap, ap₂, ◌∙◌}
use mathlib.Core.List.{[], ◌∷◌, ◌++◌, append_assoc, append-nil}
use Prim.Native.Nat.{ℕ, zero, suc, ◌+◌, ◌*◌, ◌/◌, ◌%◌, ◌^◌, ◌<◌}
use native.Mathlib.Nat.{pow-suc, pow-zero, div-lt_iff_lt-mul, zero-lt-suc, add-zero, zero-add, add-suc, suc-add}
use native.Mathlib.Omega.{arith}
use lib.ListN.{length, length-append}
use Rattle.octets.specs.Bytes.{Bytes, IsBytes}
use Rattle.octets.proofs.ByteStrings.{bytes_nil, bytes_cons, bytes_append}
use Rattle.octets_numbers.specs.BigEndian.{big_endian, number_from, number_in}

pub length_big_endian : (size n : ℕ) → length (big_endian size n) ≡ size
unfolding big_endian
length_big_endian zero n = refl
length_big_endian (suc size) n =
    length-append (big_endian size (n / 256)) (n % 256 ∷ []) ∙ omega (arith, length_big_endian size (n / 256))

pub big_endian_bytes : (size n : ℕ) → IsBytes (big_endian size n)
unfolding big_endian
big_endian_bytes zero n = bytes_nil
big_endian_bytes (suc size) n =
    bytes_append (big_endian size (n / 256)) (n % 256 ∷ []) (big_endian_bytes size (n / 256)) (bytes_cons (n % 256) [] (omega arith) bytes_nil)

-- ---- reading what was written

number_snoc : (n : ℕ) (xs : Bytes) (b : ℕ) → number_from n (xs ++ b ∷ []) ≡ number_from n xs * 256 + b
unfolding number_from
number_snoc n [] b = refl
number_snoc n (x ∷ xs) b = number_snoc (n * 256 + x) xs b

pub number_big_endian : (size n : ℕ) → n < 256 ^ size → number_in (big_endian size n) ≡ n
unfolding big_endian number_in number_from
number_big_endian zero n h = omega (arith, pow-zero 256)
number_big_endian (suc size) n h =
    let fits : n / 256 < 256 ^ size = (div-lt_iff_lt-mul {k = 256} {x = n} {y = 256 ^ size} (zero-lt-suc 255)).1 (rw (pow-suc 256 size) at h) in
    number_snoc 0 (big_endian size (n / 256)) (n % 256) ∙ omega (arith, number_big_endian size (n / 256) fits)

pub big_endian_injective : (size n m : ℕ) → n < 256 ^ size → m < 256 ^ size → big_endian size n ≡ big_endian size m → n ≡ m
big_endian_injective size n m h k e = sym (number_big_endian size n h) ∙ ap number_in e ∙ number_big_endian size m k

-- ---- writing what was read

bytes_tail : (b : ℕ) (xs : Bytes) → IsBytes (b ∷ xs) → IsBytes xs
bytes_tail b xs h i l = h (suc i) (omega arith)

written_from : (size n : ℕ) (xs : Bytes) → IsBytes xs → big_endian (size + length xs) (number_from n xs) ≡ big_endian size n ++ xs
unfolding big_endian number_from
written_from size n [] h = rw add-zero (sym (append-nil (big_endian size n)))
written_from size n (b ∷ xs) h =
    let low : b < 256 = h 0 (omega arith) in
    let q : (n * 256 + b) / 256 ≡ n = omega arith in
    let r : (n * 256 + b) % 256 ≡ b = omega arith in
    ap (λ (k : ℕ). big_endian k (number_from (n * 256 + b) xs)) (add-suc size (length xs) ∙ sym (suc-add size (length xs)))
    ∙ written_from (suc size) (n * 256 + b) xs (bytes_tail b xs h)
    ∙ ap₂ (λ (m d : ℕ). (big_endian size m ++ d ∷ []) ++ xs) q r
    ∙ append_assoc (big_endian size n) (b ∷ []) xs

pub big_endian_number : (xs : Bytes) → IsBytes xs → big_endian (length xs) (number_in xs) ≡ xs
unfolding big_endian number_in
big_endian_number xs h = rw zero-add at (written_from 0 0 xs h)

-- ---- what fits

from_fits : (size n : ℕ) (xs : Bytes) → IsBytes xs → n < 256 ^ size → number_from n xs < 256 ^ (size + length xs)
unfolding number_from
from_fits size n [] h f = rw add-zero f
from_fits size n (b ∷ xs) h f =
    let low : b < 256 = h 0 (omega arith) in
    let more : n * 256 + b < 256 ^ suc size = rw (pow-suc 256 size) (omega arith) in
    rw (add-suc, ← suc-add) (from_fits (suc size) (n * 256 + b) xs (bytes_tail b xs h) more)

pub number_fits : (xs : Bytes) → IsBytes xs → number_in xs < 256 ^ length xs
unfolding number_in
number_fits xs h = rw zero-add at (from_fits 0 0 xs h (omega (arith, pow-zero 256)))
