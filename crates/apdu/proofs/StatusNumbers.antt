-- A status word whose SW2 is a byte comes back from the number that stands for it, and each number from its status word.
use mathlib.Core.Path.{◌≡◌}
use Prim.Native.Nat.{ℕ, ◌<◌, ◌/◌, ◌%◌}
use native.Mathlib.Omega.{arith}
use Rattle.apdu.specs.Apdu.{status_word, status_of}
use Rattle.apdu.specs.declared.StatusWord.{StatusWord}

pub status_back : (sw : StatusWord) → sw.sw2 < 256 → status_of (status_word sw) ≡ sw
status_back sw h =
    let hi : status_word sw / 256 ≡ sw.sw1 = omega arith in
    let lo : status_word sw % 256 ≡ sw.sw2 = omega arith in
    λ i. record { sw1 = hi i; sw2 = lo i }

pub number_back : (n : ℕ) → status_word (status_of n) ≡ n
number_back n = omega arith
