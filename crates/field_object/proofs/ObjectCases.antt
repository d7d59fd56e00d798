-- The ways in which the reading of an object ends, each from its first breach.
use mathlib.Core.Path.{◌≡◌}
use mathlib.Core.Bool.{true, false}
use Prim.Native.Nat.{ℕ, ◌+◌, ◌<◌, ◌≤◌}
use borrow.Author.Tests.{le-leb, lt-leb}
use lib.ListN.{length, get_or}
use Rattle.octets.specs.Bytes.{Bytes}
use Rattle.field_ber_length.specs.Length.{found, read_length, is_shortest}
use Rattle.field_expected.specs.Wanted.{allowed}
use Rattle.field_object.specs.Values.{right_size, right_value}
use Rattle.field_object.specs.Object.{breach, require◌else◌⨾◌, with_length, read_object}
use Rattle.field_expected.specs.declared.Wanted.{Wanted}
use Rattle.field_object.specs.declared.Rule.TheVariants.{Tag, LengthForm, LengthSize, BytesLeft, Value}
use Rattle.std.specs.Prelude.{None, Ok, Err}

module _ (w : Wanted) (r : ℕ) (xs : Bytes) (at : ℕ) where
  pub bad_tag : allowed w r (get_or xs at 0) ≡ false → read_object w r xs at ≡ Err (breach Tag (get_or xs at 0) at)
  unfolding read_object require◌else◌⨾◌
  bad_tag e = simp e

  module _ (ok : allowed w r (get_or xs at 0) ≡ true) where
    pub bad_form : read_length xs (at + 1) ≡ None → read_object w r xs at ≡ Err (breach LengthForm (get_or xs at 0) (at + 1))
    unfolding read_object require◌else◌⨾◌ with_length
    bad_form e = simp (ok, e)

    module _ (n size : ℕ) (read : read_length xs (at + 1) ≡ found n size) where
      pub long_form : is_shortest n size ≡ false → read_object w r xs at ≡ Err (breach LengthForm (get_or xs at 0) (at + 1))
      unfolding read_object require◌else◌⨾◌ with_length
      long_form e = simp (ok, read, e)

      module _ (form : is_shortest n size ≡ true) where
        pub bad_size : right_size w (get_or xs at 0) n ≡ false → read_object w r xs at ≡ Err (breach LengthSize (get_or xs at 0) (at + 1))
        unfolding read_object require◌else◌⨾◌ with_length
        bad_size e = simp (ok, read, form, e)

        module _ (fit : right_size w (get_or xs at 0) n ≡ true) where
          pub past_end : length xs < at + 1 + size + n → read_object w r xs at ≡ Err (breach BytesLeft (get_or xs at 0) (at + 1))
          unfolding read_object require◌else◌⨾◌ with_length
          past_end e = simp (ok, read, form, fit, lt-leb (at + 1 + size + n) (length xs) e)

          pub bad_value : at + 1 + size + n ≤ length xs → right_value w (get_or xs at 0) xs (at + 1 + size) ≡ false
              → read_object w r xs at ≡ Err (breach Value (get_or xs at 0) (at + 1 + size))
          unfolding read_object require◌else◌⨾◌ with_length
          bad_value h e = simp (ok, read, form, fit, le-leb (at + 1 + size + n) (length xs) h, e)

          pub whole_object : at + 1 + size + n ≤ length xs → right_value w (get_or xs at 0) xs (at + 1 + size) ≡ true
              → read_object w r xs at ≡ Ok (record { tag = get_or xs at 0; start = at; value = at + 1 + size; len = n; next = at + 1 + size + n })
          unfolding read_object require◌else◌⨾◌ with_length
          whole_object h e = simp (ok, read, form, fit, le-leb (at + 1 + size + n) (length xs) h, e)
