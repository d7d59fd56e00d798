-- What holds of a field in which an object was read: each rule that the reading tested.
use mathlib.Core.Path.{◌≡◌, refl}
use mathlib.Core.Bool.{Bool, true, false, ◌&&◌}
use Prim.Native.Nat.{ℕ, ◌+◌, ◌-◌, ◌%◌, ◌<◌, ◌≤◌}
use native.Mathlib.Omega.{arith}
use borrow.Author.Tests.{eqb-true, leb-true, leb-false, ltb-true}
use lib.Dec.{eqb, leb, ltb, lit≤}
use lib.ListN.{length, get_or}
use Rattle.octets.proofs.Tests.{both}
use Rattle.octets.specs.Bytes.{Bytes}
use Rattle.std.specs.Prelude.{if◌then◌else◌}
use Rattle.field_ber_length.specs.Length.{found, read_length, is_shortest}
use Rattle.field_ber_length.specs.declared.LengthField.{LengthField}
use Rattle.field_expected.specs.Wanted.{tag_of, rank, may, need_of, allowed}
use Rattle.field_object.specs.Values.{size_of, right_size, right_value}
use Rattle.field_object.specs.Object.{read_object}
use Rattle.field_expected.specs.declared.Second.{Second}
use Rattle.field_expected.specs.declared.Second.TheVariants.{Le, Status}
use Rattle.field_expected.specs.declared.Wanted.{Wanted}
use Rattle.field_object.specs.declared.Breach.{Breach}
use Rattle.field_object.specs.declared.DataObject.{DataObject}
use Rattle.std.specs.Prelude.{Option, Some, None, Result, Ok, Err}
use Rattle.field_object.proofs.ObjectCases.{bad_tag, bad_form, long_form, bad_size, past_end, bad_value, whole_object}

-- the object d stands at index at, after one at place r
pub record Stands (w : Wanted) (r : ℕ) (xs : Bytes) (at : ℕ) (d : DataObject) : Type 0 where
  pub n : ℕ
  pub size : ℕ
  pub ok : allowed w r (get_or xs at 0) ≡ true
  pub read : read_length xs (at + 1) ≡ found n size
  pub form : is_shortest n size ≡ true
  pub fit : right_size w (get_or xs at 0) n ≡ true
  pub inside : at + 1 + size + n ≤ length xs
  pub right : right_value w (get_or xs at 0) xs (at + 1 + size) ≡ true
  pub same : d ≡ record { tag = get_or xs at 0; start = at; value = at + 1 + size; len = n; next = at + 1 + size + n }

no_object : {o : Result DataObject Breach} {d : DataObject} {b : Breach} {P : Type 0} → o ≡ Ok d → o ≡ Err b → P
no_object e f = let z : ◌≡◌ {A = ℕ} 0 1 = cc in let n : ⊥ = omega arith in absurd n

module _ (w : Wanted) (r : ℕ) (xs : Bytes) (at : ℕ) (d : DataObject) (e : read_object w r xs at ≡ Ok d) where
  pub stands : Stands w r xs at d
  stands = by_tag (allowed w r (get_or xs at 0)) refl
    where
      tag : ℕ
      tag = get_or xs at 0

      by_value : (n size : ℕ) → allowed w r (get_or xs at 0) ≡ true → read_length xs (at + 1) ≡ found n size → is_shortest n size ≡ true
          → right_size w (get_or xs at 0) n ≡ true → at + 1 + size + n ≤ length xs
          → (t : Bool) → right_value w (get_or xs at 0) xs (at + 1 + size) ≡ t → Stands w r xs at d
      by_value n size ok l form fit h false f = no_object e (bad_value w r xs at ok n size l form fit h f)
      by_value n size ok l form fit h true f =
          let g : read_object w r xs at ≡ Ok (record { tag = get_or xs at 0; start = at; value = at + 1 + size; len = n; next = at + 1 + size + n }) =
          whole_object w r xs at ok n size l form fit h f in
          record { n = n; size = size; ok = ok; read = l; form = form; fit = fit; inside = h; right = f; same = cc }

      by_room : (n size : ℕ) → allowed w r (get_or xs at 0) ≡ true → read_length xs (at + 1) ≡ found n size → is_shortest n size ≡ true
          → right_size w (get_or xs at 0) n ≡ true → (t : Bool) → leb (at + 1 + size + n) (length xs) ≡ t → Stands w r xs at d
      by_room n size ok l form fit false f = no_object e (past_end w r xs at ok n size l form fit (leb-false (at + 1 + size + n) (length xs) f))
      by_room n size ok l form fit true f =
          by_value n size ok l form fit (leb-true (at + 1 + size + n) (length xs) f) (right_value w (get_or xs at 0) xs (at + 1 + size)) refl

      by_size : (n size : ℕ) → allowed w r (get_or xs at 0) ≡ true → read_length xs (at + 1) ≡ found n size → is_shortest n size ≡ true
          → (t : Bool) → right_size w (get_or xs at 0) n ≡ t → Stands w r xs at d
      by_size n size ok l form false f = no_object e (bad_size w r xs at ok n size l form f)
      by_size n size ok l form true f = by_room n size ok l form f (leb (at + 1 + size + n) (length xs)) refl

      by_form : (n size : ℕ) → allowed w r (get_or xs at 0) ≡ true → read_length xs (at + 1) ≡ found n size
          → (t : Bool) → is_shortest n size ≡ t → Stands w r xs at d
      by_form n size ok l false f = no_object e (long_form w r xs at ok n size l f)
      by_form n size ok l true f = by_size n size ok l f (right_size w (get_or xs at 0) n) refl

      by_length : allowed w r (get_or xs at 0) ≡ true → (l : Option LengthField) → read_length xs (at + 1) ≡ l → Stands w r xs at d
      by_length ok None f = no_object e (bad_form w r xs at ok f)
      by_length ok (Some field) f =
          by_form field.length field.size ok f (is_shortest field.length field.size) refl

      by_tag : (t : Bool) → allowed w r (get_or xs at 0) ≡ t → Stands w r xs at d
      by_tag false f = no_object e (bad_tag w r xs at f)
      by_tag true f = by_length f (read_length xs (at + 1)) refl

-- ---- places and sizes

pub later : (w : Wanted) (r tag : ℕ) → allowed w r tag ≡ true → r < rank w.second tag
unfolding allowed
later w r tag e =
    ltb-true r (rank w.second tag)
    (both (ltb r (rank w.second tag)) (if eqb tag 0x87 then may w.«data» else (if eqb tag 0x8E then true else may (need_of w.second))) e).0

pub rank_most : (second : Second) (tag : ℕ) → rank second tag ≤ 3
unfolding rank
rank_most second tag = go (eqb tag 0x87) (eqb tag (tag_of second)) (eqb tag 0x8E)
  where
    go : (s t u : Bool) → (if s then 1 else (if t then 2 else (if u then 3 else 0))) ≤ 3
    go true t u = lit≤ tt
    go false true u = lit≤ tt
    go false false true = lit≤ tt
    go false false false = lit≤ tt

size_least : (second : Second) → 1 ≤ size_of second
size_least (Le need) = lit≤ tt
size_least (Status sw1 sw2) = lit≤ tt

pub some_byte : (w : Wanted) (tag n : ℕ) → right_size w tag n ≡ true → 1 ≤ n
unfolding right_size
some_byte w tag n e = go (eqb tag 0x87) (eqb tag 0x8E) e
  where
    go : (s t : Bool) → (if s then leb 17 n && eqb ((n - 1) % 16) 0 && leb (n - 1) w.limit else (if t then eqb n 8 else eqb n (size_of w.second))) ≡ true → 1 ≤ n
    go true t f =
        omega (
          arith,
          leb-true 17 n
              (both (leb 17 n) (eqb ((n - 1) % 16) 0) (both (leb 17 n && eqb ((n - 1) % 16) 0) (leb (n - 1) w.limit) f).0).0,
        )
    go false true f = omega (arith, eqb-true n 8 f)
    go false false f = omega (arith, eqb-true n (size_of w.second) f, size_least w.second)
