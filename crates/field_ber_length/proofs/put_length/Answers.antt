-- `put_length` meets its contract: one case for each form.
use mathlib.Core.Path.{◌≡◌, ap}
use mathlib.Core.List.{[], ◌∷◌}
use Prim.Native.Nat.{ℕ, ◌/◌, ◌%◌}
use native.Mathlib.Omega.{arith}
use lib.ListN.{length, get_or}
use Rattle.octets.specs.Bytes.{Bytes}
use Rattle.field_ber_length.proofs.LengthForms.{one_byte, two_bytes, three_bytes}
use Rattle.field_ber_length.proofs.put_length.Goals as goal

-- the two bytes of a number, the high one first
byte_of : (bytes : Bytes) (high low i : ℕ) → bytes ≡ high ∷ low ∷ [] → get_or bytes i 0 ≡ get_or (high ∷ low ∷ []) i 0
byte_of bytes high low i e = ap (λ (xs : Bytes). get_or xs i 0) e

pub put_bytes-requires : goal.put_bytes-requires
put_bytes-requires c = omega (arith, ap length (one_byte c.args.n (omega arith)))

pub returns-in-0-to-127 : goal.returns-in-0-to-127
returns-in-0-to-127 c =
    let n = c.args.n in
    let low = byte_of c.to_be_bytes.result _ _ 1 c.to_be_bytes.ensures in
    let e : n % 256 ≡ n = omega arith in
    rw (one_byte n (omega arith)) (rw (low, e) at c.put_bytes.ensures)

pub put_bytes-requires-in-0-to-255 : goal.put_bytes-requires-in-0-to-255
put_bytes-requires-in-0-to-255 c = omega (arith, ap length (two_bytes c.args.n (omega arith) (omega arith)))

pub returns-in-0-to-255 : goal.returns-in-0-to-255
returns-in-0-to-255 c =
    let n = c.args.n in
    let low = byte_of c.to_be_bytes.result _ _ 1 c.to_be_bytes.ensures in
    let e : n % 256 ≡ n = omega arith in
    rw (two_bytes n (omega arith) (omega arith)) (rw (low, e) at c.put_bytes-in-0-to-255.ensures)

pub put_bytes-requires-in_default : goal.put_bytes-requires-in_default
put_bytes-requires-in_default c = omega (arith, ap length (three_bytes c.args.n (omega arith)))

pub returns-in_default : goal.returns-in_default
returns-in_default c =
    let n = c.args.n in
    let high = byte_of c.to_be_bytes.result _ _ 0 c.to_be_bytes.ensures in
    let low = byte_of c.to_be_bytes.result _ _ 1 c.to_be_bytes.ensures in
    let e : n / 256 % 256 ≡ n / 256 = omega (arith, c.requires) in
    rw (three_bytes n (omega arith)) (rw (high, low, e) at c.put_bytes-in_default.ensures)
