-- What stands in a field that was read, received as slices of it: how long they are, and what is in them. For the two unwraps.
use mathlib.Core.Path.{◌≡◌, sym, ap, ap₂, subst}
use Prim.Native.Nat.{ℕ, ◌+◌, ◌-◌, ◌≤◌}
use native.Mathlib.Omega.{arith}
use lib.ListN.{take, drop, length-drop}
use lib.Seq.{length-take-le}
use Rattle.octets.specs.Bytes.{Bytes}
use Rattle.field_expected.specs.declared.Wanted.{Wanted}
use Rattle.field_read.specs.declared.Objects.{Objects}
use Rattle.field_laws.specs.Written.{Conforms}
use Rattle.message_verify.specs.VerifiedText.{Received, received, received_in, WellSized}

-- from index start to index start + n
abbrev slice : Bytes → ℕ → ℕ → Bytes
slice xs start n = take (start + n - start) (drop start xs)

slice_is : (xs : Bytes) (start n : ℕ) → slice xs start n ≡ take n (drop start xs)
slice_is xs start n = let e : start + n - start ≡ n = omega arith in ap (λ (k : ℕ). take k (drop start xs)) e

module _ (field : Bytes) (o : Objects) where
  abbrev slices : Received
  slices = received (slice field o.mac 8) (slice field o.ciphertext o.ciphertext_len)

  pub slices_are : slices ≡ received_in field o
  slices_are = ap₂ received (slice_is field o.mac 8) (slice_is field o.ciphertext o.ciphertext_len)

  pub slices_sized : (w : Wanted) → Conforms w field o → w.limit ≤ 16384 → WellSized slices
  slices_sized w conforms h =
      subst WellSized (sym slices_are) (record {
        mac_size = length-take-le 8 (drop o.mac field) (omega (arith, length-drop o.mac field, conforms.mac_within));
        blocks = conforms.blocks.0;
        short = omega (arith, conforms.blocks.1, h);
      })
