-- SP 800-73-4 Part 2, 4.2.2: the padding of command and response data.
use Rattle.std.specs.Prelude.{◌≡◌, ◌∷◌, ◌++◌, ℕ, zero, suc, ◌+◌, ◌*◌, ◌-◌, ◌/◌, ◌%◌, ◌<◌, ◌≤◌, min, eqb, length, get_or}
use Rattle.octets.specs.Bytes.{Bytes, zeros}
use Rattle.std.specs.Prelude.{if◌then◌else◌}
use Rattle.std.specs.Prelude.{Option, Some, None}

-- '80' followed by the number of zeros needed to make the length a multiple of 16: 1 to 16 bytes
unfoldable pub padding : ℕ → Bytes
padding p = 0x80 ∷ zeros (15 - p % 16)

unfoldable pub pad : Bytes → Bytes
pad xs = xs ++ padding (length xs)

-- E of rule 4.4: the length of p bytes of data with their padding
unfoldable pub padded_length : ℕ → ℕ
padded_length p = 16 * (p / 16 + 1)

-- the last byte that isn't zero, b at index n, must be '80', and data must stand before it
unfoldable pub marked : ℕ → ℕ → Option ℕ
marked b n = if eqb b 0x80 then (if eqb n 0 then None else Some n) else None

-- the last byte that isn't zero among the k bytes before index n
unfoldable pub mark_before : ℕ → Bytes → ℕ → Option ℕ
mark_before zero xs n = None
mark_before (suc k) xs n = if eqb (get_or xs (n - 1) 0) 0 then mark_before k xs (n - 1) else marked (get_or xs (n - 1) 0) (n - 1)

-- padding is looked for in the last 16 bytes only
unfoldable pub unpad : Bytes → Option ℕ
unpad xs = mark_before (min 16 (length xs)) xs (length xs)

-- the rule: some data ends at index m, where '80' is the last byte that isn't zero, and it is among the last 16
pub record PaddedAt (xs : Bytes) (m : ℕ) : Type 0 where
  pub some_data : 0 < m
  pub within : m < length xs
  pub in_the_last_16 : length xs ≤ m + 16
  pub mark : get_or xs m 0 ≡ 0x80
  pub zeros_after : (i : ℕ) → m < i → get_or xs i 0 ≡ 0
