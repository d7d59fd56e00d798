-- Where a part ends: behind as many bytes as asked for, or with the string; and the bytes up to there are the part.
use mathlib.Core.Path.{◌≡◌, sym, ap, ◌∙◌}
use Prim.Native.Nat.{ℕ, ◌-◌, ◌≤◌}
use native.Mathlib.Omega.{arith}
use lib.ListN.{length, take, drop, length-take, length-drop, take-append-drop}
use lib.Seq.{take-append_seam}
use Rattle.octets.specs.Bytes.{Bytes}
use Rattle.chain_parts.specs.Parts.{part_end}

take_its_length : (n : ℕ) (l : Bytes) → take (length (take n l)) l ≡ take n l
take_its_length n l = ap (take (length (take n l))) (sym (take-append-drop n l)) ∙ take-append_seam (take n l) (drop n l)

module _ (bytes : Bytes) (start most : ℕ) where
  pub ends_within : start ≤ length bytes → part_end bytes start most ≤ length bytes
  ends_within within = simp (length-take, length-drop) (omega arith)

  pub part_bytes : (end : ℕ) → end ≡ part_end bytes start most → take (end - start) (drop start bytes) ≡ take most (drop start bytes)
  part_bytes end e =
      let n : end - start ≡ length (take most (drop start bytes)) = omega arith in
      rw n (take_its_length most (drop start bytes))
