-- The part of a field that a fragment holds: it lies within the field, and with the status word it is the fragment.
-- Assumes nothing.
use mathlib.Core.Path.{◌≡◌, refl}
use mathlib.Core.Bool.{Bool, true, false}
use mathlib.Core.List.{[], ◌∷◌, ◌++◌}
use Prim.Native.Nat.{ℕ, ◌+◌, ◌-◌, ◌≤◌}
use native.Mathlib.Omega.{arith}
use lib.Dec.{eqb}
use lib.ListN.{length, take, drop, length-append}
use Rattle.octets.specs.Bytes.{Bytes}
use Rattle.std.specs.Prelude.{if◌then◌else◌}
use Rattle.chain_parts.proofs.PartEnds.{ends_within, part_bytes}
use Rattle.apdu.specs.declared.StatusWord.{StatusWord}
use Rattle.message_answer.specs.Message.{more_sw1}
use Rattle.chain_response.specs.Fragment.{asked, announced, fragment_data, fragment_status, next, fragment}

-- ---- the status word

length_status : (sw : StatusWord) (n : ℕ) → length (fragment_status sw n) ≡ 2
unfolding fragment_status
length_status sw n = go (eqb n 0)
  where
    go : (last : Bool) → length (if last then sw.sw1 ∷ sw.sw2 ∷ [] else (more_sw1 ∷ announced n ∷ [])) ≡ 2
    go true = refl
    go false = refl

-- ---- where the data ends

module _ (field : Bytes) (at le end : ℕ) (e : end ≡ next field at le) where
  length_data : end ≡ at + length (fragment_data field at le)
  unfolding next
  length_data = e

  pub part_order : at ≤ end
  part_order = omega (arith, length_data)

  pub part_within : at ≤ length field → end ≤ length field
  unfolding fragment_data
  part_within h = rw length_data (ends_within field at (asked le) h)

  part_is : take (end - at) (drop at field) ≡ fragment_data field at le
  unfolding fragment_data
  part_is =
      part_bytes field at (asked le) end length_data

  -- ---- the fragment

  module _ (sw : StatusWord) where
    pub part_fragment : take (end - at) (drop at field) ++ fragment_status sw (length field - end) ≡ fragment sw field at le
    unfolding fragment
    part_fragment = rw (part_is, e)

    pub length_fragment : end - at + 2 ≡ length (fragment sw field at le)
    unfolding fragment
    length_fragment =
        omega (arith, length_data, length-append (fragment_data field at le) (fragment_status sw (length field - next field at le)), length_status sw (length field - next field at le))
