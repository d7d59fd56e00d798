-- Rules 2.1 and 2.2: the number of each refusal, and what it gives beside it.
use Rattle.std.specs.Prelude.{ℕ, ◌+◌}
use Rattle.apdu.specs.Apdu.{status_word}
use Rattle.apdu.specs.declared.StatusWord.{StatusWord}
use Rattle.refusal.specs.declared.Refusal.{Refusal}
use Rattle.refusal.specs.declared.Refusal.TheVariants.{SessionClosed, OutOfTurn, NotPermitted, TooLong, CommandLimit, BufferTooSmall, Malformed, MissingObject, BadMac, BadPadding, UnknownSuite, BadKeyLength, Unprotected, BrokenChain, FragmentTooLong, BadSession}

-- a row of the table: a number alone, 6 with the size needed, or 13 with the status word
pub data Told : Type 0 where
  Number : ℕ → Told
  Size : ℕ → Told
  Status : StatusWord → Told

-- the table's rows: a number alone, but for the size needed at 6 and the status word, unverified, at 13
abbrev pub tells : Refusal → Told
tells SessionClosed = Number 1
tells OutOfTurn = Number 2
tells NotPermitted = Number 3
tells TooLong = Number 4
tells CommandLimit = Number 5
tells (BufferTooSmall size) = Size size
tells Malformed = Number 7
tells MissingObject = Number 8
tells BadMac = Number 9
tells BadPadding = Number 10
tells UnknownSuite = Number 11
tells BadKeyLength = Number 12
tells (Unprotected sw) = Status sw
tells BrokenChain = Number 14
tells FragmentTooLong = Number 15
tells BadSession = Number 16

abbrev pub number_told : Told → ℕ
number_told (Number n) = n
number_told (Size n) = 6
number_told (Status sw) = 13

abbrev pub size_told : Told → ℕ
size_told (Number n) = 0
size_told (Size n) = n
size_told (Status sw) = 0

abbrev pub status_told : Told → ℕ
status_told (Number n) = 0
status_told (Size n) = 0
status_told (Status sw) = status_word sw

abbrev pub number : Refusal → ℕ
number r = number_told (tells r)

-- the size needed, at 6; 0 at all others
abbrev pub size : Refusal → ℕ
size r = size_told (tells r)

-- the status word, unverified, at 13; 0 at all others
abbrev pub status : Refusal → ℕ
status r = status_told (tells r)

-- the table's column "Extra": a size or a status word
abbrev pub extra : Refusal → ℕ
extra r = size r + status r
