-- Where fragment k of a field starts, how much it holds, and what holds where its APDU is given.
-- Assumes nothing.
use mathlib.Core.Path.{◌≡◌, refl, sym}
use Prim.Native.Nat.{ℕ, ◌*◌, ◌≤◌, ◌<◌}
use native.Mathlib.Nat.{le-mul_of_pos_right}
use native.Mathlib.Omega.{arith}
use borrow.Author.Tests.{leb-true}
use lib.ListN.{length, take, drop, length-take}
use Rattle.octets.specs.Bytes.{Bytes}
use Rattle.apdu.specs.declared.Header.{Header}
use Rattle.message_answer.specs.Answer.{gave}
use Rattle.message_answer.proofs.Required.{require_gave}
use Rattle.chain_command.specs.Fragment.{fragment_size, fragment_count, fragment, fragment_command}
use Rattle.chain_parts.proofs.Ceiling.{starts_within}
use Rattle.chain_command.proofs.Sizes.{sized}

module _ (field : Bytes) (p k : ℕ) (small : p ≤ 255) where
  module _ (numbered : k < fragment_count (length field) p) where
    pub starts_in : (most : ℕ) → most ≡ fragment_size p → k * most < length field
    unfolding fragment_count
    starts_in most m = rw m (starts_within (length field) (fragment_size p) k (sized p small).positive numbered)

    -- there is a byte for each fragment
    pub number_in : k < length field
    number_in = omega (arith, starts_in (fragment_size p) refl, le-mul_of_pos_right k (sized p small).positive)

  pub short_part : length (take (fragment_size p) (drop (k * fragment_size p) field)) ≤ 255
  short_part = omega (arith, (sized p small).small, length-take (fragment_size p) (drop (k * fragment_size p) field))

-- an APDU that is given has room
pub given_fits : (h : Header) (field : Bytes) (p k room : ℕ) (apdu : Bytes) → gave apdu ≡ fragment_command h field p k room → length apdu ≤ room
unfolding fragment_command
given_fits h field p k room apdu e =
    let a = require_gave _ _ _ apdu (sym e) in
    let b = require_gave _ _ _ apdu a.1 in
    let c = require_gave _ _ _ apdu b.1 in
    let d = require_gave _ _ _ apdu c.1 in
    let same : fragment h field p k ≡ apdu = cc in
    rw (sym same) (leb-true _ _ d.0)
