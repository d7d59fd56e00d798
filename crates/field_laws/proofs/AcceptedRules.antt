-- What an accepted field holds is what was wanted: nothing unwanted or lacking, whole blocks up to the limit, all within the field.
use mathlib.Core.Path.{◌≡◌, refl, sym, ap, ◌∙◌}
use mathlib.Core.Logic.{inl, inr}
use mathlib.Core.Bool.{Bool, true, false, ◌&&◌}
use Prim.Native.Nat.{ℕ, ◌+◌, ◌-◌, ◌%◌, ◌<◌, ◌≤◌}
use native.Mathlib.Omega.{arith}
use borrow.Author.Tests.{eq-eqb, ne_eqb, eqb-true, leb-true, ltb-true}
use lib.Dec.{eqb, ltb, leb}
use lib.ListN.{length, get_or, drop, length-drop}
use lib.Seq.{length-take-le}
use Rattle.octets.specs.Bytes.{Bytes}
use Rattle.std.specs.Prelude.{if◌then◌else◌}
use Rattle.octets.proofs.Tests.{both}
use Rattle.field_expected.specs.Wanted.{may, lacks, tag_of, need_of, rank, allowed, suits}
use Rattle.field_object.specs.Values.{right_size}
use Rattle.field_read.specs.Field.{none, read_field, ciphertext_of}
use Rattle.field_expected.specs.declared.Need.{Need}
use Rattle.field_expected.specs.declared.Need.TheVariants.{Must, May, MustNot}
use Rattle.field_expected.specs.declared.Wanted.{Wanted}
use Rattle.field_object.specs.declared.DataObject.{DataObject}
use Rattle.field_read.specs.declared.Objects.{Objects}
use Rattle.std.specs.Prelude.{Ok}
use Rattle.field_laws.specs.Written.{Conforms}
use Rattle.field_laws.proofs.Noted.{not_data, not_mac}
use Rattle.field_laws.proofs.Acceptance.{Optional, all_there}
use Rattle.field_laws.proofs.Determined.{parts, inside, left, last, cut, second_there, data_start_of, data_length_of}

-- ---- needs

no_test : {P : Type 0} → true ≡ false → P
no_test e = let z : ◌≡◌ {A = ℕ} 0 1 = cc in let o : ⊥ = omega arith in absurd o

suits_from : (need : Need) (there : Bool) → (there ≡ true → may need ≡ true) → lacks need there ≡ false → suits need there ≡ true
suits_from Must true f e = refl
suits_from Must false f e = no_test e
suits_from May there f e = refl
suits_from MustNot true f e = f refl
suits_from MustNot false f e = refl

module _ (w : Wanted) (r tag : ℕ) (ok : allowed w r tag ≡ true) where
  data_may : tag ≡ 0x87 → may w.«data» ≡ true
  unfolding allowed
  data_may e =
      let a = (both (ltb r (rank w.second tag)) (if eqb tag 0x87 then may w.«data» else (if eqb tag 0x8E then true else may (need_of w.second))) ok).1 in
      rw (eq-eqb tag 0x87 e) at a

  second_may : tag ≡ tag_of w.second → may (need_of w.second) ≡ true
  unfolding allowed
  second_may e =
      let a = (both (ltb r (rank w.second tag)) (if eqb tag 0x87 then may w.«data» else (if eqb tag 0x8E then true else may (need_of w.second))) ok).1 in
      rw (ne_eqb tag 0x87 (λ q. not_data w.second (sym e ∙ q)), ne_eqb tag 0x8E (λ q. not_mac w.second (sym e ∙ q))) at a

-- ---- sizes

mac_size : (w : Wanted) (tag n : ℕ) → tag ≡ 0x8E → right_size w tag n ≡ true → n ≡ 8
unfolding right_size
mac_size w tag n e f =
    let g : tag ≡ 0x87 → ⊥ = λ q. omega (arith, e, q) in
    eqb-true n 8 (rw (ne_eqb tag 0x87 g, eq-eqb tag 0x8E e) at f)

data_size : (w : Wanted) (tag n : ℕ) → tag ≡ 0x87 → right_size w tag n ≡ true → (17 ≤ n) × (((n - 1) % 16 ≡ 0) × (n - 1 ≤ w.limit))
unfolding right_size
data_size w tag n e f =
    let g : (leb 17 n && eqb ((n - 1) % 16) 0 && leb (n - 1) w.limit) ≡ true = rw (eq-eqb tag 0x87 e) at f in
    let a = both (leb 17 n && eqb ((n - 1) % 16) 0) (leb (n - 1) w.limit) g in
    let b = both (leb 17 n) (eqb ((n - 1) % 16) 0) a.0 in
    (leb-true _ _ b.0, (eqb-true _ _ b.1, leb-true _ _ a.1))

-- ---- the theorem

module _ (w : Wanted) (xs : Bytes) (p : Objects) (e : read_field w xs ≡ Ok p) where
  abbrev o1 : Objects
  o1 = (parts w xs p e).o1

  data_start : p.ciphertext ≡ o1.ciphertext
  data_start = ap (λ (o : Objects). o.ciphertext) (last w xs p e) ∙ (left w xs p e).data_start

  data_length_lem : p.ciphertext_len ≡ o1.ciphertext_len
  data_length_lem = ap (λ (o : Objects). o.ciphertext_len) (last w xs p e) ∙ (left w xs p e).data_length_lem

  -- of '87', there or not
  record DataRight : Type 0 where
    wanted : 0 < p.ciphertext_len → may w.«data» ≡ true
    whole : p.ciphertext_len % 16 ≡ 0
    short : p.ciphertext_len ≤ w.limit
    within : p.ciphertext + p.ciphertext_len ≤ length xs

  data_right : DataRight
  data_right = go (parts w xs p e).a o1 (parts w xs p e).first data_start data_length_lem
    where
      go : (a : ℕ) (o : Objects) → Optional w xs 0 0x87 a none o → p.ciphertext ≡ o.ciphertext → p.ciphertext_len ≡ o.ciphertext_len → DataRight
      go a o (inl (f, q)) s l =
          let z : p.ciphertext_len ≡ 0 = l ∙ ap (λ (o : Objects). o.ciphertext_len) q in
          let y : p.ciphertext ≡ 0 = s ∙ ap (λ (o : Objects). o.ciphertext) q in
          record { wanted = λ h. let n : ⊥ = omega (arith, z) in absurd n; whole = omega (arith, z); short = omega (arith, z); within = omega (arith, z, y) }
      go a o (inr part) s l =
          let d = data_size w (get_or xs 0 0) part.here.n part.tagged part.here.fit in
          let m : (part.here.n - 1) % 16 ≡ 0 = d.1.0 in
          let k : p.ciphertext_len ≡ part.here.n - 1 = l ∙ data_length_of part in
          record {
            wanted = λ h. data_may w part.r (get_or xs 0 0) part.here.ok part.tagged;
            whole = ap (λ (i : ℕ). i % 16) k ∙ m;
            short = omega (arith, k, d.1.1);
            within = omega (arith, k, s, data_start_of part, d.0, part.here.inside);
          }

  size_is : length (ciphertext_of xs p) ≡ p.ciphertext_len
  size_is = length-take-le p.ciphertext_len (drop p.ciphertext xs) (omega (arith, length-drop p.ciphertext xs, data_right.within))

  second_wanted : p.second ≡ true → may (need_of w.second) ≡ true
  second_wanted h = go (parts w xs p e).tail.second
    where
      go : Optional w xs (parts w xs p e).a (tag_of w.second) (parts w xs p e).tail.b o1 (parts w xs p e).tail.o2 → may (need_of w.second) ≡ true
      go (inl (f, q)) =
          let z : ⊥ = omega (arith, f, ltb-true (parts w xs p e).a (parts w xs p e).tail.b (sym (second_there w xs p e) ∙ h)) in absurd z
      go (inr part) = second_may w part.r (get_or xs (parts w xs p e).a 0) part.here.ok part.tagged

  pub conforms : Conforms w xs p
  conforms =
      let c = all_there w xs p e in
      let m = (parts w xs p e).tail.last in
      let v : p.mac ≡ (parts w xs p e).tail.b + 1 + m.here.size =
      ap (λ (o : Objects). o.mac) (last w xs p e) ∙ ap (λ (d : DataObject). d.value) m.here.same in
      record {
        encrypted = suits_from w.«data» (ltb 0 p.ciphertext_len) (λ h. data_right.wanted (ltb-true 0 p.ciphertext_len h)) c.0;
        second = suits_from (need_of w.second) p.second second_wanted c.1;
        size = size_is;
        blocks = (ap (λ (i : ℕ). i % 16) size_is ∙ data_right.whole, omega (arith, size_is, data_right.short));
        data_within = data_right.within;
        covered_within = omega (arith, cut w xs p e, inside w xs p e);
        mac_within = omega (arith, v, m.here.inside, mac_size w (get_or xs (parts w xs p e).tail.b 0) m.here.n m.tagged m.here.fit);
      }
