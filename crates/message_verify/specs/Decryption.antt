-- What a decryption leaves in memory, and what it answers.
use Rattle.std.specs.Prelude.{◌≡◌, ℕ, ◌≤◌, length, Option, None, Some, option_map}
use Rattle.octets.specs.Bytes.{Bytes}
use Rattle.message_ciphers.specs.Aes.{data_in}

-- the data's length, or that the padding is wrong
abbrev pub unpadded : Option Bytes → Option ℕ
unpadded d = option_map (λ x. length x) d

abbrev pub data_length : Option ℕ → ℕ
data_length (Some n) = n
data_length None = 0

-- a string in memory, and where the data at its start ends, within its first n bytes
pub record Decrypted (text : Bytes) (n : ℕ) (r : Option ℕ) (d : Option Bytes) : Type 0 where
  pub is : data_in text r ≡ d
  pub within : data_length r ≤ n
