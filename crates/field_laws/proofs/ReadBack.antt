-- A field that was written is read back: the same encrypted data, Le or status word, MAC, and bytes before '8E'.
use mathlib.Core.Path.{◌≡◌, refl, sym, ap, ap₂, ◌∙◌}
use mathlib.Core.Logic.{◌⊎◌, inl, inr}
use mathlib.Core.Bool.{Bool, true, false, not}
use mathlib.Core.List.{[], ◌∷◌, ◌++◌, append_assoc, append-nil}
use Prim.Native.Nat.{ℕ, zero, suc, ◌+◌, ◌-◌, ◌<◌}
use native.Mathlib.Nat.{add-zero}
use native.Mathlib.Numerals.{add-one}
use native.Mathlib.Omega.{arith}
use borrow.Author.Tests.{eq-eqb, ne_eqb, lt-ltb, eqb-true, eqb-false}
use lib.Dec.{eqb, ltb}
use lib.ListN.{length, get_or, take, drop, length-append}
use lib.Seq.{get_or-append_seam, get_or-append-add, drop-append-add, take-append_seam, take_all}
use Rattle.octets.specs.Bytes.{Bytes}
use Rattle.std.specs.Prelude.{if◌then◌else◌}
use Rattle.field_ber_length.specs.Length.{found, length_field, read_length}
use Rattle.field_ber_length.proofs.LengthForms.{read_written, written_shortest}
use Rattle.field_write.specs.Objects.{object, encrypted_data, le_object, status_word, mac_object, command_objects, response_objects, command_field, response_field}
use Rattle.field_expected.specs.Wanted.{may, lacks, tag_of, need_of, rank, allowed, suits}
use Rattle.field_object.specs.Values.{size_of, right_size, right_second, right_value}
use Rattle.field_object.specs.Object.{read_object}
use Rattle.field_read.specs.Field.{none, noted, ended, walk, read_field}
use Rattle.field_expected.specs.declared.Need.{Need}
use Rattle.field_expected.specs.declared.Need.TheVariants.{Must, May, MustNot}
use Rattle.field_expected.specs.declared.Second.{Second}
use Rattle.field_expected.specs.declared.Second.TheVariants.{Le, Status}
use Rattle.field_expected.specs.declared.Wanted.{Wanted}
use Rattle.field_read.specs.declared.Objects.{Objects}
use Rattle.field_object.specs.declared.DataObject.{DataObject}
use Rattle.std.specs.Prelude.{Ok}
use Rattle.field_object.proofs.ObjectCases.{whole_object}
use Rattle.field_read.proofs.Walk.{walk_end, walk_object}
use Rattle.field_write.proofs.FieldLengths.{mac_bytes, no_data}
use Rattle.field_laws.specs.Written.{Suits, ReadsBack}
use Rattle.field_laws.proofs.Noted.{not_data, not_mac, noted_data, noted_mac, noted_second, rank_data, rank_second, rank_mac}

-- an object that was written between front and back
module _ (front : Bytes) (tag : ℕ) (value back : Bytes) (short : length value < 65536) where
  abbrev n : ℕ
  n = length value

  abbrev size : ℕ
  size = length (length_field (length value))

  abbrev whole : Bytes
  whole = front ++ (object tag value ++ back)

  -- behind the tag, and behind the length
  from_length : whole ≡ (front ++ tag ∷ []) ++ (length_field (length value) ++ (value ++ back))
  unfolding object
  from_length =
      ap (λ (l : Bytes). front ++ tag ∷ l) (append_assoc (length_field (length value)) value back)
      ∙ sym (append_assoc front (tag ∷ []) (length_field (length value) ++ (value ++ back)))

  from_value : whole ≡ (front ++ tag ∷ [] ++ length_field (length value)) ++ (value ++ back)
  from_value = from_length ∙ sym (append_assoc (front ++ tag ∷ []) (length_field (length value)) (value ++ back))

  tag_there : get_or whole (length front) 0 ≡ tag
  unfolding object
  tag_there = get_or-append_seam front tag ((length_field (length value) ++ value) ++ back) 0

  length_there : read_length whole (length front + 1) ≡ found n size
  length_there =
      ap₂ read_length from_length (sym (length-append front (tag ∷ [])))
      ∙ read_written (front ++ tag ∷ []) (value ++ back) (length value) short

  abbrev head : Bytes
  head = front ++ tag ∷ [] ++ length_field (length value)

  head_length : length head ≡ length front + 1 + size
  head_length =
      length-append (front ++ tag ∷ []) (length_field (length value))
      ∙ ap (λ (k : ℕ). k + length (length_field (length value))) (length-append front (tag ∷ []))

  object_length : length (object tag value) ≡ 1 + size + n
  unfolding object
  object_length = omega (arith, length-append (length_field (length value)) value)

  whole_length : length whole ≡ length front + 1 + size + n + length back
  whole_length =
      omega (arith, length-append front (object tag value ++ back), length-append (object tag value) back, object_length)

  value_there : (i : ℕ) → get_or whole (length front + 1 + size + i) 0 ≡ get_or (value ++ back) i 0
  value_there i =
      ap₂ (λ (l : Bytes) (k : ℕ). get_or l k 0) from_value (ap (λ (k : ℕ). k + i) (sym head_length))
      ∙ get_or-append-add (front ++ tag ∷ [] ++ length_field (length value)) (value ++ back) i 0

  abbrev written : DataObject
  written = record { tag = tag; start = length front; value = length front + 1 + size; len = n; next = length front + 1 + size + n }

  read_object_lem : (w : Wanted) (r : ℕ) → allowed w r tag ≡ true → right_size w tag n ≡ true → right_value w tag whole (length front + 1 + size) ≡ true
      → read_object w r whole (length front) ≡ Ok written
  read_object_lem w r ok fit right =
      whole_object w r whole (length front) (ap (allowed w r) tag_there ∙ ok) n size length_there (written_shortest (length value))
      (ap (λ (t : ℕ). right_size w t n) tag_there ∙ fit) (omega (arith, whole_length))
      (ap (λ (t : ℕ). right_value w t whole (length front + 1 + size)) tag_there ∙ right)
      ∙ ap (λ (t : ℕ). Ok (record { tag = t; start = length front; value = length front + 1 + size; len = n; next = length front + 1 + size + n })) tag_there

-- ---- one object after another

module _ (w : Wanted) (xs : Bytes) (o : Objects) (r k : ℕ) (more : 0 < k) (front : Bytes) where
  -- an object of the list, where the walk stands
  walk_on : (tag : ℕ) (value back : Bytes) (short : length value < 65536) → xs ≡ whole front tag value back short
      → allowed w r tag ≡ true → right_size w tag (length value) ≡ true → right_value w tag xs (length front + 1 + size front tag value back short) ≡ true
      → walk k w xs o r (length front)
      ≡ walk (k - 1) w xs (noted o (written front tag value back short)) (rank w.second tag) (length front + length (object tag value))
  walk_on tag value back short e ok fit right =
      walk_object w xs o r (length front) k (written front tag value back short) more
      (omega (arith, ap length e, whole_length front tag value back short))
      (ap (λ (l : Bytes). read_object w r l (length front)) e
      ∙ read_object_lem front tag value back short w r ok fit
      (ap (λ (l : Bytes). right_value w tag l (length front + 1 + size front tag value back short)) (sym e) ∙ right))
      ∙ ap (λ (next : ℕ). walk (k - 1) w xs (noted o (written front tag value back short)) (rank w.second tag) next)
      (omega (arith, object_length front tag value back short))

-- the byte i of a value
value_byte : (xs front : Bytes) (tag : ℕ) (value back : Bytes) (short : length value < 65536) → xs ≡ whole front tag value back short
    → (i : ℕ) → get_or xs (length front + 1 + size front tag value back short + i) 0 ≡ get_or (value ++ back) i 0
value_byte xs front tag value back short e i =
    ap (λ (l : Bytes). get_or l (length front + 1 + size front tag value back short + i) 0) e ∙ value_there front tag value back short i

-- ---- which objects may stand where

module _ (w : Wanted) where
  data_allowed : may w.«data» ≡ true → allowed w 0 0x87 ≡ true
  unfolding allowed
  data_allowed h = rw (rank_data w.second, h)

  second_allowed : (r : ℕ) → r < 2 → may (need_of w.second) ≡ true → allowed w r (tag_of w.second) ≡ true
  unfolding allowed
  second_allowed r l h =
      rw (
        rank_second w.second,
        lt-ltb r 2 l,
        ne_eqb (tag_of w.second) 0x87 (not_data w.second),
        ne_eqb (tag_of w.second) 0x8E (not_mac w.second),
        h,
      )

  mac_allowed : (r : ℕ) → r < 3 → allowed w r 0x8E ≡ true
  unfolding allowed
  mac_allowed r l = rw (rank_mac w.second, lt-ltb r 3 l)

  mac_fits : (n : ℕ) → n ≡ 8 → right_size w 0x8E n ≡ true
  unfolding right_size
  mac_fits n e = eq-eqb n 8 e

  mac_right : (xs : Bytes) (at : ℕ) → right_value w 0x8E xs at ≡ true
  unfolding right_value
  mac_right xs at = refl

  second_fits : (n : ℕ) → n ≡ size_of w.second → right_size w (tag_of w.second) n ≡ true
  unfolding right_size
  second_fits n e =
      rw (
        ne_eqb (tag_of w.second) 0x87 (not_data w.second),
        ne_eqb (tag_of w.second) 0x8E (not_mac w.second),
        eq-eqb n (size_of w.second) e,
      )

  second_right : (xs : Bytes) (at : ℕ) → right_second w.second xs at ≡ true → right_value w (tag_of w.second) xs at ≡ true
  unfolding right_value
  second_right xs at h =
      rw (
        ne_eqb (tag_of w.second) 0x87 (not_data w.second),
        ne_eqb (tag_of w.second) 0x8E (not_mac w.second),
        h,
      )

  data_right : (xs : Bytes) (at : ℕ) → get_or xs at 0 ≡ 1 → right_value w 0x87 xs at ≡ true
  unfolding right_value
  data_right xs at h = eq-eqb (get_or xs at 0) 1 h

-- ---- '8E', and the end

module _ (w : Wanted) (xs front mac : Bytes) (h : length mac ≡ 8) (e : xs ≡ front ++ object 0x8E mac) where
  abbrev with-mac : Objects → Objects
  with-mac o =
      record { ciphertext = o.ciphertext; ciphertext_len = o.ciphertext_len; second = o.second; mac_start = length front; mac = length front + 2 }

  short : length mac < 65536
  short = omega (arith, h)

  mac_size : size front 0x8E mac [] short ≡ 1
  unfolding length_field
  mac_size = rw h

  mac_whole : xs ≡ whole front 0x8E mac [] short
  mac_whole = e ∙ ap (λ (l : Bytes). front ++ l) (sym (append-nil (object 0x8E mac)))

  mac_walk : (o : Objects) (r k : ℕ) → 0 < k → r < 3 → walk k w xs o r (length front) ≡ ended w (with-mac o) 3 (length xs)
  mac_walk o r k more l =
      walk_on w xs o r k more front 0x8E mac [] short mac_whole (mac_allowed w r l) (mac_fits w (length mac) h)
      (mac_right w xs (length front + 1 + size front 0x8E mac [] short))
      ∙ walk_end w xs (noted o (written front 0x8E mac [] short)) (rank w.second 0x8E) (length front + length (object 0x8E mac)) (k - 1)
      (omega (arith, ap length e, length-append front (object 0x8E mac)))
      ∙ ap₂ (λ (q : Objects) (r : ℕ). ended w q r (length xs))
      (noted_mac o (written front 0x8E mac [] short) refl
      ∙ ap (λ (v : ℕ). record { ciphertext = o.ciphertext; ciphertext_len = o.ciphertext_len; second = o.second; mac_start = length front; mac = v })
      (omega (arith, mac_size)))
      (rank_mac w.second)

-- ---- the second object, there or not

-- a value that the second object may have
record Right (w : Wanted) (value : Bytes) : Type 0 where
  fits : length value ≡ size_of w.second
  short : length value < 65536
  right : (ys back : Bytes) (at : ℕ) → ((i : ℕ) → get_or ys (at + i) 0 ≡ get_or (value ++ back) i 0) → right_second w.second ys at ≡ true

-- its bytes, where it is there and where not
abbrev Written2 : Wanted → Bool → Bytes → Type 0
Written2 w there bytes =
    ((there ≡ false) × (bytes ≡ []))
    ⊎ ((there ≡ true) × ((may (need_of w.second) ≡ true) × ((value : Bytes) × (Right w value × (bytes ≡ object (tag_of w.second) value)))))

module _ (w : Wanted) (mac : Bytes) (h : length mac ≡ 8) where
  abbrev with-both : Objects → Bool → Bytes → Objects
  with-both o there before =
      record { ciphertext = o.ciphertext; ciphertext_len = o.ciphertext_len; second = there; mac_start = length before; mac = length before + 2 }

  tail_walk : (xs front bytes : Bytes) (there : Bool) → Written2 w there bytes → xs ≡ (front ++ bytes) ++ object 0x8E mac
      → (o : Objects) (r k : ℕ) → o.second ≡ false → r < 2 → 1 < k
      → walk k w xs o r (length front) ≡ ended w (with-both o there (front ++ bytes)) 3 (length xs)
  tail_walk xs front bytes there (inl (f, q)) e o r k u l m =
      let g : front ++ bytes ≡ front = ap (λ (b : Bytes). front ++ b) q ∙ append-nil front in
      mac_walk w xs front mac h (e ∙ ap (λ (b : Bytes). b ++ object 0x8E mac) g) o r k (omega arith) (omega arith)
      ∙ ap₂ (λ (t : Bool) (b : Bytes). ended w (with-both o t b) 3 (length xs)) (u ∙ sym f) (sym g)
  tail_walk xs front bytes there (inr (f, (may2, (value, (v, q))))) e o r k u l m =
      let tag : ℕ = tag_of w.second in
      let here : xs ≡ whole front tag value (object 0x8E mac) v.short =
      e ∙ append_assoc front bytes (object 0x8E mac) ∙ ap (λ (b : Bytes). front ++ (b ++ object 0x8E mac)) q in
      let d : DataObject = written front tag value (object 0x8E mac) v.short in
      let at : ℕ = length front + 1 + size front tag value (object 0x8E mac) v.short in
      walk_on w xs o r k (omega arith) front tag value (object 0x8E mac) v.short here (second_allowed w r l may2) (second_fits w (length value) v.fits)
      (second_right w xs at (v.right xs (object 0x8E mac) at (value_byte xs front tag value (object 0x8E mac) v.short here)))
      ∙ ap₂ (λ (q : Objects) (i : ℕ). walk (k - 1) w xs q (rank w.second tag) i) (noted_second o d w.second refl)
      (sym (length-append front bytes ∙ ap (λ (b : Bytes). length front + length b) q))
      ∙ mac_walk w xs (front ++ bytes) mac h e
      (record { ciphertext = o.ciphertext; ciphertext_len = o.ciphertext_len; second = true; mac_start = o.mac_start; mac = o.mac })
      (rank w.second tag) (k - 1) (omega arith) (omega (arith, rank_second w.second))
      ∙ ap (λ (t : Bool). ended w (with-both o t (front ++ bytes)) 3 (length xs)) (sym f)

-- ---- '87', there or not

module _ (w : Wanted) (c rest xs : Bytes) (some : length c ≡ 0 → ⊥) (short : length c < 65535) (e : xs ≡ encrypted_data c ++ rest) where
  short1 : length (0x01 ∷ c) < 65536
  short1 = omega arith

  data_object : encrypted_data c ≡ object 0x87 (0x01 ∷ c)
  unfolding encrypted_data
  data_object = rw (ne_eqb (length c) 0 some)

  data_whole : xs ≡ whole [] 0x87 (0x01 ∷ c) rest short1
  data_whole = e ∙ ap (λ (b : Bytes). b ++ rest) data_object

  abbrev with-data : Objects
  with-data = record { ciphertext = 1 + size [] 0x87 (0x01 ∷ c) rest short1 + 1; ciphertext_len = length c; second = false; mac_start = 0; mac = 0 }

  data_walk : may w.«data» ≡ true → right_size w 0x87 (length (0x01 ∷ c)) ≡ true
      → walk 4 w xs none 0 0 ≡ walk 3 w xs with-data 1 (length (encrypted_data c))
  data_walk ok fit =
      walk_on w xs none 0 4 (omega arith) [] 0x87 (0x01 ∷ c) rest short1 data_whole (data_allowed w ok) fit
      (data_right w xs (1 + size [] 0x87 (0x01 ∷ c) rest short1) (ap (λ (i : ℕ). get_or xs i 0) (omega arith) ∙ value_byte xs [] 0x87 (0x01 ∷ c) rest short1 data_whole 0))
      ∙ ap₂ (λ (r i : ℕ). walk 3 w xs (noted none (written [] 0x87 (0x01 ∷ c) rest short1)) r i) (rank_data w.second) (omega (arith, ap length data_object))
      ∙ ap (λ (q : Objects). walk 3 w xs q 1 (length (encrypted_data c))) (noted_data none (written [] 0x87 (0x01 ∷ c) rest short1) refl ∙ ap (λ (n : ℕ). record { ciphertext = 1 + size [] 0x87 (0x01 ∷ c) rest short1 + 1; ciphertext_len = n; second = false; mac_start = 0; mac = 0 }) (omega arith))

  data_back : take (length c) (drop (1 + size [] 0x87 (0x01 ∷ c) rest short1 + 1) xs) ≡ c
  data_back =
      let hd : Bytes = head [] 0x87 (0x01 ∷ c) rest short1 in
      ap₂ (λ (l : Bytes) (i : ℕ). take (length c) (drop i l)) (data_whole ∙ from_value [] 0x87 (0x01 ∷ c) rest short1)
      (ap (λ (i : ℕ). i + 1) (sym (head_length [] 0x87 (0x01 ∷ c) rest short1)))
      ∙ ap (take (length c)) (drop-append-add hd (0x01 ∷ (c ++ rest)) 1)
      ∙ take-append_seam c rest

-- ---- the theorem

empty : (c : Bytes) → length c ≡ 0 → c ≡ []
empty [] e = refl
empty (b ∷ c) e = let z : ⊥ = omega (arith, e) in absurd z

positive : (n : ℕ) → (n ≡ 0 → ⊥) → 0 < n
positive zero f = absurd (f refl)
positive (suc n) f = omega arith

suits_may : (need : Need) → suits need true ≡ true → may need ≡ true
suits_may Must h = refl
suits_may May h = refl
suits_may MustNot h = h

suits_lacks : (need : Need) (there : Bool) → suits need there ≡ true → lacks need there ≡ false
suits_lacks Must there h = ap not h
suits_lacks May there h = refl
suits_lacks MustNot there h = refl

module _ (w : Wanted) (c : Bytes) (there : Bool) (bytes mac : Bytes) (s : Suits w c there) (h : length mac ≡ 8) (second : Written2 w there bytes) where
  abbrev field : Bytes
  field = (encrypted_data c ++ bytes) ++ mac_object mac

  field_whole : field ≡ (encrypted_data c ++ bytes) ++ object 0x8E mac
  unfolding mac_object
  field_whole = refl

  -- at the end nothing lacks
  end : (o : Objects) → o.second ≡ there → o.ciphertext_len ≡ length c → (n : ℕ) → ended w o 3 n ≡ Ok o
  unfolding ended
  end o e l n =
      let a : lacks w.«data» (ltb 0 o.ciphertext_len) ≡ false =
      ap (λ (i : ℕ). lacks w.«data» (ltb 0 i)) l ∙ suits_lacks w.«data» (ltb 0 (length c)) s.encrypted in
      let b : lacks (need_of w.second) o.second ≡ false = ap (lacks (need_of w.second)) e ∙ suits_lacks (need_of w.second) there s.second in
      rw (a, b)

  back : (o : Objects) → o.ciphertext_len ≡ length c → take o.ciphertext_len (drop o.ciphertext field) ≡ c
      → read_field w field ≡ ended w (with-both w mac h o there (encrypted_data c ++ bytes)) 3 (length field)
      → ReadsBack w field c there mac (encrypted_data c ++ bytes)
  back o l d e =
      record {
        objects = with-both w mac h o there (encrypted_data c ++ bytes);
        accepted = e ∙ end (with-both w mac h o there (encrypted_data c ++ bytes)) refl l (length field);
        size = l;
        encrypted = d;
        second = refl;
        covers = take-append_seam (encrypted_data c ++ bytes) (mac_object mac);
        tag =
            ap (λ (m : Bytes). take 8 (drop (length (encrypted_data c ++ bytes) + 2) ((encrypted_data c ++ bytes) ++ m))) (mac_bytes mac h)
            ∙ ap (take 8) (drop-append-add (encrypted_data c ++ bytes) (0x8E ∷ 0x08 ∷ mac) 2)
            ∙ take_all 8 mac (omega (arith, h));
      }

  reads_back : ReadsBack w field c there mac (encrypted_data c ++ bytes)
  unfolding read_field
  reads_back = go (eqb (length c) 0) refl
    where
      go : (t : Bool) → eqb (length c) 0 ≡ t → ReadsBack w field c there mac (encrypted_data c ++ bytes)
      go true z =
          let n : length c ≡ 0 = eqb-true (length c) 0 z in
          back none (sym n) (sym (empty c n))
          (ap (λ (i : ℕ). walk 4 w field none 0 i) (sym (ap length (no_data c n)))
          ∙ tail_walk w mac h field (encrypted_data c) bytes there second field_whole none 0 4 refl (omega arith) (omega arith))
      go false z =
          let some : length c ≡ 0 → ⊥ = eqb-false (length c) 0 z in
          let rest : Bytes = bytes ++ mac_object mac in
          let e : field ≡ encrypted_data c ++ rest = append_assoc (encrypted_data c) bytes (mac_object mac) in
          let full : 0 < length c = positive (length c) some in
          let ok : may w.«data» ≡ true = suits_may w.«data» (ap (suits w.«data») (sym (lt-ltb 0 (length c) full)) ∙ s.encrypted) in
          back (with-data w c rest field some s.short e) refl (data_back w c rest field some s.short e)
          (data_walk w c rest field some s.short e ok (ap (right_size w 0x87) (sym (add-one (length c))) ∙ s.size full)
          ∙ tail_walk w mac h field (encrypted_data c) bytes there second field_whole (with-data w c rest field some s.short e) 1 3 refl (omega arith) (omega arith))

le_right : (w : Wanted) (need : Need) → w.second ≡ Le need → Right w (0x00 ∷ [])
unfolding right_second
le_right w need e =
    record {
      fits = sym (ap size_of e);
      short = omega arith;
      right = λ ys back at v.
          ap (λ (s : Second). right_second s ys at) e ∙ eq-eqb (get_or ys at 0) 0 (ap (λ (i : ℕ). get_or ys i 0) (sym (add-zero at)) ∙ v 0);
    }

status_right : (w : Wanted) (sw1 sw2 : ℕ) → w.second ≡ Status sw1 sw2 → Right w (sw1 ∷ sw2 ∷ [])
unfolding right_second
status_right w sw1 sw2 e =
    record {
      fits = sym (ap size_of e);
      short = omega arith;
      right = λ ys back at v.
          ap (λ (s : Second). right_second s ys at) e
          ∙ rw (eq-eqb (get_or ys at 0) sw1 (ap (λ (i : ℕ). get_or ys i 0) (sym (add-zero at)) ∙ v 0), eq-eqb (get_or ys (at + 1) 0) sw2 (v 1));
    }

-- a command's field
pub read_command_lem : (w : Wanted) (need : Need) (c : Bytes) (le : Bool) (mac : Bytes) → w.second ≡ Le need → Suits w c le → length mac ≡ 8
    → ReadsBack w (command_field c le mac) c le mac (command_objects c le)
unfolding command_field command_objects le_object
read_command_lem w need c le mac e s h = reads_back w c le (if le then object 0x97 (0x00 ∷ []) else []) mac s h (second le s)
  where
    second : (there : Bool) → Suits w c there → Written2 w there (if there then object 0x97 (0x00 ∷ []) else [])
    second false f = inl (refl, refl)
    second true f =
        inr (refl, (suits_may (need_of w.second) f.second, (0x00 ∷ [], (le_right w need e, ap (λ (s : Second). object (tag_of s) (0x00 ∷ [])) (sym e)))))

-- a response's field
pub read_response_lem : (w : Wanted) (sw1 sw2 : ℕ) (c mac : Bytes) → w.second ≡ Status sw1 sw2 → Suits w c true → length mac ≡ 8
    → ReadsBack w (response_field c sw1 sw2 mac) c true mac (response_objects c sw1 sw2)
unfolding response_field response_objects status_word
read_response_lem w sw1 sw2 c mac e s h =
    reads_back w c true (object 0x99 (sw1 ∷ sw2 ∷ [])) mac s h
    (inr (
      refl,
      (
        suits_may (need_of w.second) s.second,
        (sw1 ∷ sw2 ∷ [], (status_right w sw1 sw2 e, ap (λ (s : Second). object (tag_of s) (sw1 ∷ sw2 ∷ [])) (sym e))),
      ),
    ))
