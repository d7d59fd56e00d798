-- `put_zeros` meets its contract: the part from index at on is zero.
use Rattle.std.proofs.Common.{◌≡◌, ◌∙◌, ℕ, ◌+◌, ◌-◌, length, take, drop, replicate, length-take-le, length-drop, ap, arith}
use Rattle.std.proofs.lemmas.List.{length-replicate}
use borrow.Rule.Slice.PartMut.{put_mid}
use Rattle.octets.specs.Bytes.{Bytes, zeros}
use Rattle.octets.proofs.Writing.{part_put}
use Rattle.octets.proofs.put_zeros.Goals as goal

pub returns : goal.returns
returns c =
    let a = c.args in
    let k = a.at + a.n - a.at in
    let size : length (zeros a.n) ≡ a.n = length-replicate a.n 0 in
    let rest : length (drop a.at a.out.now) ≡ length a.out.now - a.at = length-drop a.at a.out.now in
    let room : length (take k (drop a.at a.out.now)) ≡ a.n =
    length-take-le k (drop a.at a.out.now) (omega (arith, rest)) ∙ omega arith in
    let zero : c.fill.new.self ≡ zeros a.n = c.fill.ensures.after (λ y e. e) ∙ ap (λ (n : ℕ). replicate n 0) room in
    record {
      end = omega (arith, size);
      bytes = ap (λ (l : Bytes). put_mid a.at k a.out.now l) zero ∙ part_put a.out.now a.at k (zeros a.n) (omega (arith, size));
    }
