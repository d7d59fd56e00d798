-- The library's bytes of a number, the highest first, are those of the definition.
use mathlib.Core.Path.{◌≡◌, refl, sym, ap, ap₂, ◌∙◌}
use mathlib.Core.List.{[], ◌∷◌, ◌++◌}
use Prim.Native.Nat.{ℕ, zero, suc, ◌/◌, ◌%◌, ◌^◌}
use native.Mathlib.Nat.{pow-succ', div-div-eq-div-mul}
use Rattle.std.specs.Int.{w128, byte_at, bytes_high_first, to_be_bytes}
use Rattle.octets.specs.Bytes.{Bytes}
use Rattle.octets_numbers.specs.BigEndian.{big_endian}
use Rattle.message_counter.specs.Counter.{command_counter}

byte_up : (k n : ℕ) → byte_at (suc k) n ≡ byte_at k (n / 256)
byte_up zero n = refl
byte_up (suc k) n =
    ap (λ (x : ℕ). x % 256) (ap (λ (p : ℕ). n / p) (pow-succ' 256 (suc k)) ∙ sym (div-div-eq-div-mul n 256 (256 ^ suc k)))

lowest_last : (k n : ℕ) → bytes_high_first (suc k) n ≡ bytes_high_first k (n / 256) ++ (n % 256 ∷ [])
lowest_last zero n = refl
lowest_last (suc k) n = ap₂ (λ (b : ℕ) (bs : Bytes). b ∷ bs) (byte_up k n) (lowest_last k n)

same_bytes : (k n : ℕ) → big_endian k n ≡ bytes_high_first k n
unfolding big_endian
same_bytes zero n = refl
same_bytes (suc k) n = ap (λ (bs : Bytes). bs ++ (n % 256 ∷ [])) (same_bytes k (n / 256)) ∙ sym (lowest_last k n)

pub counter_is : (i : ℕ) → command_counter i ≡ to_be_bytes w128 i
unfolding command_counter
counter_is i = same_bytes 16 i
