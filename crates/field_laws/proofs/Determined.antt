-- The bytes before '8E' of an accepted field say what its encrypted data, Le and status word are.
use mathlib.Core.Path.{◌≡◌, refl, sym, ap, ap₂, ◌∙◌}
use mathlib.Core.Logic.{inl, inr}
use mathlib.Core.Bool.{true, false, ◌&&◌}
use Prim.Native.Nat.{ℕ, ◌+◌, ◌-◌, ◌≤◌}
use native.Mathlib.Omega.{arith}
use borrow.Author.Tests.{eq-eqb, ne_eqb, lt-ltb, le-ltb, eqb-true, ltb-true, not-false}
use lib.Dec.{eqb, ltb}
use lib.ListN.{length, get_or, take, drop}
use lib.Seq.{get_or-take, length-take-le, take-take, take-add, drop_at}
use Rattle.octets.proofs.Tests.{both}
use Rattle.octets.specs.Bytes.{Bytes}
use Rattle.field_ber_length.specs.Length.{found, read_length}
use Rattle.field_ber_length.proofs.LengthForms.{read_prefix}
use Rattle.field_expected.specs.Wanted.{lacks, tag_of, need_of}
use Rattle.field_object.specs.Values.{size_of, right_size, right_second, right_value}
use Rattle.field_read.specs.Field.{none, read_field, ciphertext_of, covered_of}
use Rattle.field_expected.specs.declared.Second.{Second}
use Rattle.field_expected.specs.declared.Second.TheVariants.{Status}
use Rattle.field_expected.specs.declared.Wanted.{Wanted}
use Rattle.field_object.specs.declared.DataObject.{DataObject}
use Rattle.field_read.specs.declared.Objects.{Objects}
use Rattle.std.specs.Prelude.{Ok}
use Rattle.field_object.proofs.Inversion.{some_byte}
use Rattle.field_laws.specs.Covered.{data_behind, end_behind, data_in, data_end, second_in, sw1_in, sw2_in, Determined}
use Rattle.field_laws.proofs.Noted.{not_data, not_mac, noted_data, noted_mac, noted_second}
use Rattle.field_laws.proofs.Acceptance.{Part, Optional, Tail, Accepted, accepted, all_there}

-- a part of a string, from a start of it that holds the part
pub part_of_start : (j k m : ℕ) (l : Bytes) → j + k ≤ m → j ≤ length l → take k (drop j (take m l)) ≡ take k (drop j l)
part_of_start j k m l h g =
    let e : m ≡ j + (m - j) = omega arith in
    ap (λ (i : ℕ). take k (drop j (take i l))) e
    ∙ ap (λ (x : Bytes). take k (drop j x)) (take-add j (m - j) l)
    ∙ ap (take k) (drop_at (take j l) (take (m - j) (drop j l)) j (length-take-le j l g))
    ∙ take-take k (m - j) (drop j l) (omega arith)

-- ---- where the parts of an accepted field stand, and what they note

module _ {w : Wanted} {xs : Bytes} {at tag next : ℕ} {o o' : Objects} (part : Part w xs at tag next o o') where
  pub tag_of_lem : part.d.tag ≡ tag
  tag_of_lem = ap (λ (d : DataObject). d.tag) part.here.same ∙ part.tagged

  pub next_of : next ≡ at + 1 + part.here.size + part.here.n
  next_of = sym part.ends ∙ ap (λ (d : DataObject). d.next) part.here.same

  pub some_of : 1 ≤ part.here.n
  some_of = some_byte w (get_or xs at 0) part.here.n part.here.fit

  next_within : next ≤ length xs
  next_within = omega (arith, next_of, part.here.inside)

module _ {w : Wanted} {xs : Bytes} {b next : ℕ} {o p : Objects} (part : Part w xs b 0x8E next o p) where
  after_mac : p ≡ record { ciphertext = o.ciphertext; ciphertext_len = o.ciphertext_len; second = o.second; mac_start = part.d.start; mac = part.d.value }
  after_mac = sym part.notes ∙ noted_mac o part.d (tag_of_lem part)

  mac_start_of : p.mac_start ≡ b
  mac_start_of = ap (λ (o : Objects). o.mac_start) after_mac ∙ ap (λ (d : DataObject). d.start) part.here.same

-- the second object, there or not, leaves the data as it was
pub record Kept (a b : ℕ) (o o' : Objects) : Type 0 where
  pub data_start : o'.ciphertext ≡ o.ciphertext
  pub data_length_lem : o'.ciphertext_len ≡ o.ciphertext_len
  pub present : o'.second ≡ ltb a b

pub kept : (w : Wanted) (xs : Bytes) (a b : ℕ) (o o' : Objects) → o.second ≡ false → Optional w xs a (tag_of w.second) b o o' → Kept a b o o'
kept w xs a b o o' f (inl (e, q)) =
    record {
      data_start = ap (λ (o : Objects). o.ciphertext) q;
      data_length_lem = ap (λ (o : Objects). o.ciphertext_len) q;
      present = ap (λ (o : Objects). o.second) q ∙ f ∙ sym (le-ltb a b (omega (arith, e)));
    }
kept w xs a b o o' f (inr part) =
    let q : o' ≡ record { ciphertext = o.ciphertext; ciphertext_len = o.ciphertext_len; second = true; mac_start = o.mac_start; mac = o.mac } =
    sym part.notes ∙ noted_second o part.d w.second (tag_of_lem part) in
    record {
      data_start = ap (λ (o : Objects). o.ciphertext) q;
      data_length_lem = ap (λ (o : Objects). o.ciphertext_len) q;
      present = ap (λ (o : Objects). o.second) q ∙ sym (lt-ltb a b (omega (arith, next_of part)));
    }

pub optional_behind : {w : Wanted} {xs : Bytes} {a tag b : ℕ} {o o' : Objects} → Optional w xs a tag b o o' → a ≤ b
optional_behind (inl (e, q)) = omega (arith, e)
optional_behind (inr part) = omega (arith, next_of part)

-- what the first m bytes say of '87', there or not
pub record DataSaid (xs : Bytes) (a m : ℕ) (o : Objects) : Type 0 where
  pub unset : o.second ≡ false
  pub encrypted : take o.ciphertext_len (drop o.ciphertext xs) ≡ data_in (take m xs)
  pub ends : data_end (take m xs) ≡ a

no_data_said : (xs : Bytes) (m : ℕ) → (get_or (take m xs) 0 0 ≡ 0x87 → ⊥) → DataSaid xs 0 m none
unfolding data_in data_end
no_data_said xs m h = record { unset = refl; encrypted = rw (ne_eqb (get_or (take m xs) 0 0) 0x87 h); ends = rw (ne_eqb (get_or (take m xs) 0 0) 0x87 h) }

-- where '87' puts the encrypted data
module _ {w : Wanted} {xs : Bytes} {a : ℕ} {o : Objects} (part : Part w xs 0 0x87 a none o) where
  noted_first : o ≡ record { ciphertext = part.d.value + 1; ciphertext_len = part.d.len - 1; second = false; mac_start = 0; mac = 0 }
  noted_first = sym part.notes ∙ noted_data none part.d (tag_of_lem part)

  pub data_start_of : o.ciphertext ≡ 1 + part.here.size + 1
  data_start_of =
      ap (λ (o : Objects). o.ciphertext) noted_first ∙ ap (λ (d : DataObject). d.value + 1) part.here.same

  pub data_length_of : o.ciphertext_len ≡ part.here.n - 1
  data_length_of =
      ap (λ (o : Objects). o.ciphertext_len) noted_first ∙ ap (λ (d : DataObject). d.len - 1) part.here.same

data_said : (w : Wanted) (xs : Bytes) (a m : ℕ) (o : Objects) → a ≤ m → m ≤ length xs → Part w xs 0 0x87 a none o → DataSaid xs a m o
unfolding data_in data_end data_behind end_behind
data_said w xs a m o h l part =
    let n : ℕ = part.here.n in
    let size : ℕ = part.here.size in
    let t : get_or (take m xs) 0 0 ≡ 0x87 = get_or-take m xs 0 0 (omega (arith, next_of part)) ∙ part.tagged in
    let r : read_length (take m xs) 1 ≡ found n size = read_prefix xs 1 n size part.here.read m (omega (arith, next_of part)) l in
    record {
      unset = ap (λ (o : Objects). o.second) (noted_first part);
      encrypted =
          ap₂ (λ (i j : ℕ). take i (drop j xs)) (data_length_of part) (data_start_of part)
          ∙ sym (part_of_start (1 + size + 1) (n - 1) m xs (omega (arith, next_of part, some_of part)) (omega (arith, next_of part, some_of part)))
          ∙ sym (rw (eq-eqb (get_or (take m xs) 0 0) 0x87 t, r));
      ends = rw (eq-eqb (get_or (take m xs) 0 0) 0x87 t, r) (sym (next_of part));
    }

-- ---- the second object's size and value

module _ (w : Wanted) (tag : ℕ) (e : tag ≡ tag_of w.second) where
  other : (t : ℕ) → (tag_of w.second ≡ t → ⊥) → eqb tag t ≡ false
  other t f = ne_eqb tag t (λ q. f (sym e ∙ q))

  pub second_size : (n : ℕ) → right_size w tag n ≡ true → n ≡ size_of w.second
  unfolding right_size
  second_size n f = eqb-true n (size_of w.second) (rw (other 0x87 (not_data w.second), other 0x8E (not_mac w.second)) at f)

  pub second_value : (xs : Bytes) (at : ℕ) → right_value w tag xs at ≡ true → right_second w.second xs at ≡ true
  unfolding right_value
  second_value xs at f = rw (other 0x87 (not_data w.second), other 0x8E (not_mac w.second)) at f

pub status_value : (second : Second) (sw1 sw2 : ℕ) → second ≡ Status sw1 sw2 → (xs : Bytes) (at : ℕ) → right_second second xs at ≡ true
    → (get_or xs at 0 ≡ sw1) × (get_or xs (at + 1) 0 ≡ sw2)
unfolding right_second
status_value second sw1 sw2 e xs at f =
    let g : (eqb (get_or xs at 0) sw1 && eqb (get_or xs (at + 1) 0) sw2) ≡ true = rw e at f in
    let h : (eqb (get_or xs at 0) sw1 ≡ true) × (eqb (get_or xs (at + 1) 0) sw2 ≡ true) = both (eqb (get_or xs at 0) sw1) (eqb (get_or xs (at + 1) 0) sw2) g in
    (eqb-true (get_or xs at 0) sw1 h.0, eqb-true (get_or xs (at + 1) 0) sw2 h.1)

-- ---- the theorem

module _ (w : Wanted) (xs : Bytes) (p : Objects) (e : read_field w xs ≡ Ok p) where
  pub parts : Accepted w xs p
  parts = accepted w xs p e

  pub inside : parts.tail.b ≤ length xs
  inside = omega (arith, next_of parts.tail.last)

  no_data_first : (b : ℕ) (o o' : Objects) → Optional w xs 0 (tag_of w.second) b o o' → get_or (take b xs) 0 0 ≡ 0x87 → ⊥
  no_data_first b o o' (inl (f, q)) g =
      let z : get_or (take b xs) 0 0 ≡ 0 = ap (λ (i : ℕ). get_or (take i xs) 0 0) f in omega (arith, z, g)
  no_data_first b o o' (inr part) g =
      not_data w.second (sym (get_or-take b xs 0 0 (omega (arith, next_of part)) ∙ part.tagged) ∙ g)

  pub said : DataSaid xs parts.a parts.tail.b parts.o1
  said = go parts.a parts.o1 parts.first parts.tail
    where
      go : (a : ℕ) (o : Objects) → Optional w xs 0 0x87 a none o → (t : Tail w xs a o p) → DataSaid xs a t.b o
      go a o (inl (f, q)) t = rw (f, q) (no_data_said xs t.b (no_data_first t.b o t.o2 (rw f at t.second)))
      go a o (inr part) t = data_said w xs a t.b o (optional_behind t.second) (omega (arith, next_of t.last)) part

  pub left : Kept parts.a parts.tail.b parts.o1 parts.tail.o2
  left = kept w xs parts.a parts.tail.b parts.o1 parts.tail.o2 said.unset parts.tail.second

  pub last : p ≡ record {
    ciphertext = parts.tail.o2.ciphertext;
    ciphertext_len = parts.tail.o2.ciphertext_len;
    second = parts.tail.o2.second;
    mac_start = parts.tail.last.d.start;
    mac = parts.tail.last.d.value;
  }
  last = after_mac parts.tail.last

  pub cut : p.mac_start ≡ parts.tail.b
  cut = mac_start_of parts.tail.last

  covered_length : length (covered_of xs p) ≡ parts.tail.b
  covered_length = ap (λ (i : ℕ). length (take i xs)) cut ∙ length-take-le parts.tail.b xs inside

  pub second_there : p.second ≡ ltb parts.a parts.tail.b
  second_there = ap (λ (o : Objects). o.second) last ∙ left.present

  pub status_there : (sw1 sw2 : ℕ) → w.second ≡ Status sw1 sw2 → p.second ≡ true
  status_there sw1 sw2 f =
      let g : lacks (need_of w.second) p.second ≡ false = (all_there w xs p e).1 in
      not-false p.second (rw f at g)

  status_said : (sw1 sw2 : ℕ) → w.second ≡ Status sw1 sw2 → (sw1_in (covered_of xs p) ≡ sw1) × (sw2_in (covered_of xs p) ≡ sw2)
  unfolding sw1_in sw2_in
  status_said sw1 sw2 f = go parts.tail.second
    where
      go : Optional w xs parts.a (tag_of w.second) parts.tail.b parts.o1 parts.tail.o2
          → (get_or (covered_of xs p) (length (covered_of xs p) - 2) 0 ≡ sw1) × (get_or (covered_of xs p) (length (covered_of xs p) - 1) 0 ≡ sw2)
      go (inl (g, q)) =
          let z : ⊥ = omega (arith, g, ltb-true parts.a parts.tail.b (sym second_there ∙ status_there sw1 sw2 f)) in absurd z
      go (inr part) =
          let v : ℕ = parts.a + 1 + part.here.size in
          let n : part.here.n ≡ 2 = second_size w (get_or xs parts.a 0) part.tagged part.here.n part.here.fit ∙ ap size_of f in
          let values : (get_or xs v 0 ≡ sw1) × (get_or xs (v + 1) 0 ≡ sw2) =
          status_value w.second sw1 sw2 f xs v (second_value w (get_or xs parts.a 0) part.tagged xs v part.here.right) in (
            ap₂ (λ (m i : ℕ). get_or (take m xs) i 0) cut (omega (arith, covered_length, next_of part, n))
                ∙ get_or-take parts.tail.b xs v 0 (omega (arith, next_of part, n))
                ∙ values.0,
            ap₂ (λ (m i : ℕ). get_or (take m xs) i 0) cut (omega (arith, covered_length, next_of part, n))
                ∙ get_or-take parts.tail.b xs (v + 1) 0 (omega (arith, next_of part, n))
                ∙ values.1,
          )

  -- the data are those that '87' noted
  pub data_noted : ciphertext_of xs p ≡ take parts.o1.ciphertext_len (drop parts.o1.ciphertext xs)
  data_noted =
      ap₂ (λ (i j : ℕ). take i (drop j xs)) (ap (λ (o : Objects). o.ciphertext_len) last ∙ left.data_length_lem) (ap (λ (o : Objects). o.ciphertext) last ∙ left.data_start)

  pub determined : Determined w xs p
  unfolding second_in
  determined =
      record {
        encrypted =
            data_noted
            ∙ said.encrypted
            ∙ ap (λ (i : ℕ). data_in (take i xs)) (sym cut);
        present =
            second_there ∙ ap₂ ltb (sym said.ends ∙ ap (λ (i : ℕ). data_end (take i xs)) (sym cut)) (sym covered_length);
        status = status_said;
      }

-- two accepted fields with the same bytes before '8E' hold the same
module _ (w v : Wanted) (xs ys : Bytes) (p q : Objects) (e : read_field w xs ≡ Ok p) (f : read_field v ys ≡ Ok q) (c : covered_of xs p ≡ covered_of ys q) where
  pub same_data : ciphertext_of xs p ≡ ciphertext_of ys q
  same_data = (determined w xs p e).encrypted ∙ ap data_in c ∙ sym (determined v ys q f).encrypted

  pub same_le : p.second ≡ q.second
  same_le = (determined w xs p e).present ∙ ap second_in c ∙ sym (determined v ys q f).present

  pub same_status : (s1 s2 t1 t2 : ℕ) → w.second ≡ Status s1 s2 → v.second ≡ Status t1 t2 → (s1 ≡ t1) × (s2 ≡ t2)
  same_status s1 s2 t1 t2 g h = (
    sym ((determined w xs p e).status s1 s2 g).0 ∙ ap sw1_in c ∙ ((determined v ys q f).status t1 t2 h).0,
    sym ((determined w xs p e).status s1 s2 g).1 ∙ ap sw2_in c ∙ ((determined v ys q f).status t1 t2 h).1,
  )
