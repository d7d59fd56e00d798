-- The affine map by masks: the count of the ones that a mask leaves, modulo 2, is the sum of the bits that it selects.
-- One test over all bytes, computed.
use mathlib.Core.Path.{◌≡◌}
use mathlib.Core.Bool.{Bool}
use Prim.Native.Nat.{ℕ, ◌+◌, ◌*◌, ◌%◌, ◌<◌}
use lib.Bits.{bit_and}
use lib.Count.{ones_in, ones}
use lib.Dec.{eqb, eqb→eq}
use Rattle.octets.specs.Bytes.{◌⊕◌}
use Rattle.octets.proofs.Table.{at_byte}
use Rattle.aes_sbox.specs.SBox.{bit, from_bits, affine_bit, affine}

-- what `parity` gives
abbrev parity : ℕ → ℕ → ℕ
parity b mask = ones (bit_and b mask) % 2

by_masks : ℕ → ℕ
by_masks b =
    ((parity b 0xf1 + parity b 0xe3 * 2 + parity b 0xc7 * 4 + parity b 0x8f * 8)
    + (parity b 0x1f * 16 + parity b 0x3e * 32 + parity b 0x7c * 64 + parity b 0xf8 * 128)) ⊕ 0x63

right : ℕ → Bool
right b = eqb (by_masks b) (affine b)

pub affine_masks : (b : ℕ) {p0 p1 p2 p3 p4 p5 p6 p7 : ℕ} → b < 256
    → p0 ≡ parity b 0xf1 → p1 ≡ parity b 0xe3 → p2 ≡ parity b 0xc7 → p3 ≡ parity b 0x8f
    → p4 ≡ parity b 0x1f → p5 ≡ parity b 0x3e → p6 ≡ parity b 0x7c → p7 ≡ parity b 0xf8
    → ((p0 + p1 * 2 + p2 * 4 + p3 * 8) + (p4 * 16 + p5 * 32 + p6 * 64 + p7 * 128)) ⊕ 0x63 ≡ affine b
unfolding by_masks right ones_in ones bit from_bits affine_bit affine
affine_masks b h e0 e1 e2 e3 e4 e5 e6 e7 =
    let all : by_masks b ≡ affine b = eqb→eq (by_masks b) (affine b) (at_byte right tt b h) in
    rw (e0, e1, e2, e3, e4, e5, e6, e7) all
