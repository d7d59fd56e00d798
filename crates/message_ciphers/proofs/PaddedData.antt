-- Padded data: whole blocks of bytes, in which the data is found again.
use mathlib.Core.Path.{◌≡◌, refl, ap}
use Rattle.std.specs.Prelude.{Some}
use mathlib.Core.List.{◌∷◌}
use Prim.Native.Nat.{◌-◌, ◌%◌, ◌<◌}
use native.Mathlib.Omega.{arith}
use lib.ListN.{length}
use lib.Seq.{take_at}
use Rattle.octets.specs.Bytes.{Bytes, IsBytes, zeros}
use Rattle.field_padding.specs.Padding.{padding, pad, padded_length, unpad}
use Rattle.field_padding.proofs.Lengths.{length_pad}
use Rattle.field_padding.proofs.Unpadding.{unpad_pad}
use Rattle.message_ciphers.specs.Aes.{data_in}
use Rattle.octets.proofs.ByteStrings.{bytes_append, bytes_cons, bytes_zeros}

module _ (d : Bytes) where
  pub padded_whole : length (pad d) % 16 ≡ 0
  unfolding padded_length
  padded_whole = omega (arith, length_pad d)

  pub padded_bytes : IsBytes d → IsBytes (pad d)
  unfolding pad padding
  padded_bytes h = bytes_append d (0x80 ∷ zeros (15 - length d % 16)) h (bytes_cons 0x80 (zeros (15 - length d % 16)) (omega arith) (bytes_zeros (15 - length d % 16)))

  pub data_padded : 0 < length d → data_in (pad d) (unpad (pad d)) ≡ Some d
  unfolding data_in pad
  data_padded h = rw (unpad_pad d h) (ap Some (take_at d (padding (length d)) (length d) refl))
