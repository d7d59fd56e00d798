-- While only the shortest length forms are read, the bytes before '8E' of an accepted field are the writing of its objects.
-- Nothing else rests on this.
use mathlib.Core.Path.{◌≡◌, refl, sym, ap, ap₂, ◌∙◌}
use mathlib.Core.Logic.{inl, inr}
use mathlib.Core.Bool.{true, false, ◌&&◌}
use mathlib.Core.List.{[], ◌∷◌, ◌++◌}
use Prim.Native.Nat.{ℕ, suc, ◌+◌, ◌-◌, ◌%◌, ◌<◌, ◌≤◌}
use native.Mathlib.Numerals.{add-one}
use native.Mathlib.Omega.{arith}
use borrow.Author.Tests.{ne_eqb, lt-ltb, le-ltb, eqb-true, leb-true, ltb-true}
use lib.Dec.{eqb, ltb, leb}
use lib.ListN.{length, get_or, take, drop, length-drop}
use lib.Seq.{length-take-le, take-add, drop-cons, drop-drop}
use Rattle.octets.proofs.Tests.{both}
use Rattle.octets.specs.Bytes.{Bytes, IsBytes}
use Rattle.field_ber_length.specs.Length.{length_field}
use Rattle.field_ber_length.proofs.LengthForms.{read_shortest}
use Rattle.field_write.specs.Objects.{object, encrypted_data, le_object, status_word, command_objects, response_objects}
use Rattle.field_expected.specs.Wanted.{tag_of}
use Rattle.field_object.specs.Values.{size_of, right_size, right_second, right_value}
use Rattle.field_read.specs.Field.{none, read_field, ciphertext_of, covered_of}
use Rattle.field_expected.specs.declared.Need.{Need}
use Rattle.field_expected.specs.declared.Second.{Second}
use Rattle.field_expected.specs.declared.Second.TheVariants.{Le, Status}
use Rattle.field_expected.specs.declared.Wanted.{Wanted}
use Rattle.field_read.specs.declared.Objects.{Objects}
use Rattle.std.specs.Prelude.{Ok}
use Rattle.field_laws.proofs.Acceptance.{Part, Optional}
use Rattle.field_laws.proofs.Determined.{next_of, second_size, second_value, status_value, parts, cut, second_there, status_there, data_start_of, data_length_of, data_noted, optional_behind}

-- one byte more
next_byte : (xs : Bytes) (i k : ℕ) → i < length xs → take (suc k) (drop i xs) ≡ get_or xs i 0 ∷ take k (drop (i + 1) xs)
next_byte xs i k h = ap (take (suc k)) (drop-cons xs i 0 h) ∙ ap (λ (j : ℕ). get_or xs i 0 ∷ take k (drop j xs)) (sym (add-one i))

-- an object of an accepted field is its own writing
module _ {w : Wanted} {xs : Bytes} {at tag next : ℕ} {o o' : Objects} (part : Part w xs at tag next o o') (bytes : IsBytes xs) where
  abbrev value : Bytes
  value = take part.here.n (drop (at + 1 + part.here.size) xs)

  value_length : length value ≡ part.here.n
  value_length = length-take-le part.here.n (drop (at + 1 + part.here.size) xs) (omega (arith, length-drop (at + 1 + part.here.size) xs, part.here.inside))

  object_bytes : take (next - at) (drop at xs) ≡ object tag value
  unfolding object
  object_bytes =
      let n : ℕ = part.here.n in
      let size : ℕ = part.here.size in
      ap (λ (k : ℕ). take k (drop at xs)) (let e : next - at ≡ suc (size + n) = omega (arith, next_of part) in e)
      ∙ next_byte xs at (size + n) (omega (arith, part.here.inside))
      ∙ ap₂ (λ (t : ℕ) (l : Bytes). t ∷ l) part.tagged
      (take-add size n (drop (at + 1) xs)
      ∙ ap₂ (λ (a b : Bytes). a ++ b) (read_shortest xs (at + 1) n size part.here.read bytes part.here.form ∙ ap length_field (sym value_length))
      (ap (take n) (drop-drop size (at + 1) xs)))

-- ---- '87'

data_least : (w : Wanted) (n : ℕ) → right_size w 0x87 n ≡ true → 17 ≤ n
unfolding right_size
data_least w n e =
    let a : (leb 17 n && eqb ((n - 1) % 16) 0) ≡ true = (both (leb 17 n && eqb ((n - 1) % 16) 0) (leb (n - 1) w.limit) e).0 in
    leb-true 17 n (both (leb 17 n) (eqb ((n - 1) % 16) 0) a).0

data_first : (w : Wanted) (xs : Bytes) (at : ℕ) → right_value w 0x87 xs at ≡ true → get_or xs at 0 ≡ 1
unfolding right_value
data_first w xs at e = eqb-true (get_or xs at 0) 1 e

data_written : (c : Bytes) → (length c ≡ 0 → ⊥) → encrypted_data c ≡ object 0x87 (0x01 ∷ c)
unfolding encrypted_data
data_written c e = rw (ne_eqb (length c) 0 e)

module _ {w : Wanted} {xs : Bytes} {a : ℕ} {o : Objects} (part : Part w xs 0 0x87 a none o) (bytes : IsBytes xs) where
  abbrev ciphertext : Bytes
  ciphertext = take (part.here.n - 1) (drop (1 + part.here.size + 1) xs)

  data_bytes : take a xs ≡ encrypted_data ciphertext
  data_bytes =
      let n : ℕ = part.here.n in
      let size : ℕ = part.here.size in
      let l : 17 ≤ n = data_least w n (ap (λ (t : ℕ). right_size w t n) (sym part.tagged) ∙ part.here.fit) in
      let f : get_or xs (1 + size) 0 ≡ 1 = data_first w xs (1 + size) (ap (λ (t : ℕ). right_value w t xs (1 + size)) (sym part.tagged) ∙ part.here.right) in
      let m : length ciphertext ≡ n - 1 = length-take-le (n - 1) (drop (1 + size + 1) xs) (omega (arith, length-drop (1 + size + 1) xs, part.here.inside)) in
      let v : take n (drop (1 + size) xs) ≡ 0x01 ∷ ciphertext =
      ap (λ (k : ℕ). take k (drop (1 + size) xs)) (let e : n ≡ suc (n - 1) = omega arith in e)
      ∙ next_byte xs (1 + size) (n - 1) (omega (arith, part.here.inside))
      ∙ ap (λ (b : ℕ). b ∷ ciphertext) f in
      ap (λ (k : ℕ). take k xs) (let e : a ≡ a - 0 = omega arith in e)
      ∙ object_bytes part bytes
      ∙ ap (object 0x87) v
      ∙ sym (data_written ciphertext (λ z. omega (arith, m, l, z)))

nothing : encrypted_data [] ≡ []
unfolding encrypted_data
nothing = refl

-- ---- the second object

le_absent : le_object false ≡ []
unfolding le_object
le_absent = refl

le_present : le_object true ≡ object 0x97 (0x00 ∷ [])
unfolding le_object
le_present = refl

module _ {w : Wanted} {xs : Bytes} {a b : ℕ} {o o' : Objects} (part : Part w xs a (tag_of w.second) b o o') (bytes : IsBytes xs) where
  abbrev at : ℕ
  at = a + 1 + part.here.size

  size_of_lem : part.here.n ≡ size_of w.second
  size_of_lem = second_size w (get_or xs a 0) part.tagged part.here.n part.here.fit

  right_of : right_second w.second xs at ≡ true
  right_of = second_value w (get_or xs a 0) part.tagged xs at part.here.right

  bytes_of_lem : (second : Second) → w.second ≡ second → take (b - a) (drop a xs) ≡ object (tag_of second) (take (size_of second) (drop at xs))
  bytes_of_lem second e =
      object_bytes part bytes ∙ ap₂ (λ (t n : ℕ). object t (take n (drop at xs))) (ap tag_of e) (size_of_lem ∙ ap size_of e)

  le_bytes : (need : Need) → w.second ≡ Le need → take (b - a) (drop a xs) ≡ object 0x97 (0x00 ∷ [])
  unfolding right_second
  le_bytes need e =
      let n : part.here.n ≡ 1 = size_of_lem ∙ ap size_of e in
      let z : get_or xs at 0 ≡ 0 = eqb-true (get_or xs at 0) 0 (ap (λ (s : Second). right_second s xs at) (sym e) ∙ right_of) in
      bytes_of_lem (Le need) e
      ∙ ap (object 0x97) (next_byte xs at 0 (omega (arith, part.here.inside, n)) ∙ ap (λ (v : ℕ). v ∷ []) z)

  status_bytes : (sw1 sw2 : ℕ) → w.second ≡ Status sw1 sw2 → take (b - a) (drop a xs) ≡ object 0x99 (sw1 ∷ sw2 ∷ [])
  status_bytes sw1 sw2 e =
      let n : part.here.n ≡ 2 = size_of_lem ∙ ap size_of e in
      let v : (get_or xs at 0 ≡ sw1) × (get_or xs (at + 1) 0 ≡ sw2) = status_value w.second sw1 sw2 e xs at right_of in
      bytes_of_lem (Status sw1 sw2) e
      ∙ ap (object 0x99)
      (next_byte xs at 1 (omega (arith, part.here.inside, n))
      ∙ ap₂ (λ (x : ℕ) (l : Bytes). x ∷ l) v.0 (next_byte xs (at + 1) 0 (omega (arith, part.here.inside, n)) ∙ ap (λ (x : ℕ). x ∷ []) v.1))

-- ---- the theorem

module _ (w : Wanted) (xs : Bytes) (p : Objects) (e : read_field w xs ≡ Ok p) (bytes : IsBytes xs) where
  abbrev a : ℕ
  a = (parts w xs p e).a

  abbrev b : ℕ
  b = (parts w xs p e).tail.b

  first_bytes : take a xs ≡ encrypted_data (ciphertext_of xs p)
  first_bytes = go a (parts w xs p e).o1 (parts w xs p e).first ∙ ap encrypted_data (sym (data_noted w xs p e))
    where
      go : (a : ℕ) (o : Objects) → Optional w xs 0 0x87 a none o → take a xs ≡ encrypted_data (take o.ciphertext_len (drop o.ciphertext xs))
      go a o (inl (f, q)) =
          ap (λ (i : ℕ). take i xs) f ∙ sym nothing ∙ ap (λ (o : Objects). encrypted_data (take o.ciphertext_len (drop o.ciphertext xs))) (sym q)
      go a o (inr part) = data_bytes part bytes ∙ ap₂ (λ (i j : ℕ). encrypted_data (take i (drop j xs))) (sym (data_length_of part)) (sym (data_start_of part))

  second_bytes : covered_of xs p ≡ encrypted_data (ciphertext_of xs p) ++ take (b - a) (drop a xs)
  second_bytes =
      ap (λ (i : ℕ). take i xs) (cut w xs p e ∙ (let q : b ≡ a + (b - a) = omega (arith, optional_behind (parts w xs p e).tail.second) in q))
      ∙ take-add a (b - a) xs
      ∙ ap (λ (l : Bytes). l ++ take (b - a) (drop a xs)) first_bytes

  pub command_bytes : (need : Need) → w.second ≡ Le need → covered_of xs p ≡ command_objects (ciphertext_of xs p) p.second
  unfolding command_objects
  command_bytes need f =
      second_bytes
      ∙ ap (λ (l : Bytes). encrypted_data (ciphertext_of xs p) ++ l) (go (parts w xs p e).tail.second ∙ ap le_object (sym (second_there w xs p e)))
    where
      go : Optional w xs a (tag_of w.second) b (parts w xs p e).o1 (parts w xs p e).tail.o2 → take (b - a) (drop a xs) ≡ le_object (ltb a b)
      go (inl (g, q)) =
          ap (λ (i : ℕ). take i (drop a xs)) (let z : b - a ≡ 0 = omega (arith, g) in z) ∙ sym (le_absent) ∙ ap le_object (sym (le-ltb a b (omega (arith, g))))
      go (inr part) =
          le_bytes part bytes need f ∙ sym le_present ∙ ap le_object (sym (lt-ltb a b (omega (arith, next_of part))))

  pub response_bytes : (sw1 sw2 : ℕ) → w.second ≡ Status sw1 sw2 → covered_of xs p ≡ response_objects (ciphertext_of xs p) sw1 sw2
  unfolding response_objects status_word
  response_bytes sw1 sw2 f = second_bytes ∙ ap (λ (l : Bytes). encrypted_data (ciphertext_of xs p) ++ l) (go (parts w xs p e).tail.second)
    where
      go : Optional w xs a (tag_of w.second) b (parts w xs p e).o1 (parts w xs p e).tail.o2 → take (b - a) (drop a xs) ≡ object 0x99 (sw1 ∷ sw2 ∷ [])
      go (inl (g, q)) =
          let z : ⊥ = omega (arith, g, ltb-true a b (sym (second_there w xs p e) ∙ status_there w xs p e sw1 sw2 f)) in absurd z
      go (inr part) = status_bytes part bytes sw1 sw2 f
