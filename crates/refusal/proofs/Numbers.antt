-- No refusal has the number 0, and only 6 and 13 give something beside their number.
use mathlib.Core.Path.{◌≡◌, refl}
use Prim.Native.Nat.{ℕ, suc}
use Rattle.refusal.specs.Refusal.{Told, Number, Size, Status, tells, number_told, size_told, status_told, number, size, status}
use Rattle.refusal.specs.declared.Refusal.{Refusal}
use Rattle.refusal.specs.declared.Refusal.TheVariants.{SessionClosed, OutOfTurn, NotPermitted, TooLong, CommandLimit, BufferTooSmall, Malformed, MissingObject, BadMac, BadPadding, UnknownSuite, BadKeyLength, Unprotected, BrokenChain, FragmentTooLong, BadSession}

pub number_suc : (r : Refusal) → (n : ℕ) × (number r ≡ suc n)
number_suc SessionClosed = (_, refl)
number_suc OutOfTurn = (_, refl)
number_suc NotPermitted = (_, refl)
number_suc TooLong = (_, refl)
number_suc CommandLimit = (_, refl)
number_suc (BufferTooSmall n) = (_, refl)
number_suc Malformed = (_, refl)
number_suc MissingObject = (_, refl)
number_suc BadMac = (_, refl)
number_suc BadPadding = (_, refl)
number_suc UnknownSuite = (_, refl)
number_suc BadKeyLength = (_, refl)
number_suc (Unprotected sw) = (_, refl)
number_suc BrokenChain = (_, refl)
number_suc FragmentTooLong = (_, refl)
number_suc BadSession = (_, refl)

pub no_size : (r : Refusal) → (number r ≡ 6 → ⊥) → size r ≡ 0
no_size r = go (tells r)
  where
    go : (told : Told) → (number_told told ≡ 6 → ⊥) → size_told told ≡ 0
    go (Number n) h = refl
    go (Size n) h = absurd (h refl)
    go (Status sw) h = refl

pub no_status : (r : Refusal) → (number r ≡ 13 → ⊥) → status r ≡ 0
no_status r = go (tells r)
  where
    go : (told : Told) → (number_told told ≡ 13 → ⊥) → status_told told ≡ 0
    go (Number n) h = refl
    go (Size n) h = refl
    go (Status sw) h = absurd (h refl)
