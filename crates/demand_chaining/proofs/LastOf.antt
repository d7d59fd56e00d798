-- The last of some answers, and what stands at the start of a buffer after it was written: for commands and responses alike.
-- Assumes nothing.
use mathlib.Core.Path.{◌≡◌, refl}
use mathlib.Core.List.{List, [], ◌∷◌, ◌++◌}
use lib.ListN.{length, take, drop}
use lib.Seq.{take-append_seam}
use Rattle.octets.specs.Bytes.{Bytes}
use Rattle.octets.specs.Write.{over}

abbrev pub last_of : {A : Type 0} → A → List A → A
last_of a [] = a
last_of a (b ∷ bs) = last_of b bs

pub last_appended : {A : Type 0} (a b : A) (before : List A) → last_of a (before ++ b ∷ []) ≡ b
last_appended a b [] = refl
last_appended a b (c ∷ before) = last_appended c b before

pub start : (xs ys : Bytes) → take (length ys) (over xs ys) ≡ ys
unfolding over
start xs ys = take-append_seam ys (drop (length ys) xs)
