-- Rules 2.1 and 2.2: the number and the length of each answer of saving and reading; 0 is the number of one that is not
-- a refusal. Reading writes nothing, so its length is 0.
use Rattle.std.specs.Prelude.{ℕ, Ok, Err}
use Rattle.refusal.specs.Refusal.{number, size}
use Rattle.session_bytes.specs.Saved.{session_size, Decoded}
use Rattle.session_bytes.specs.Saving.{Encoding}

pub record Answered : Type 0 where
  pub number : ℕ
  pub length : ℕ

abbrev pub answered : ℕ → ℕ → Answered
answered number length = record { number = number; length = length }

abbrev pub saving_answered : Encoding → Answered
saving_answered (Ok done) = answered 0 session_size
saving_answered (Err r) = answered (number r) (size r)

abbrev pub reading_answered : Decoded → Answered
reading_answered (Ok s) = answered 0 0
reading_answered (Err r) = answered (number r) (size r)
