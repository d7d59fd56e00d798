-- An accepted field is '87' if it is there, the second object if it is there, '8E', and nothing more.
use mathlib.Core.Path.{◌≡◌, refl, ap, ◌∙◌, subst}
use mathlib.Core.Logic.{◌⊎◌, inl, inr}
use mathlib.Core.Bool.{Bool, true, false}
use Prim.Native.Nat.{ℕ, zero, suc, ◌+◌, ◌<◌, ◌≤◌}
use native.Mathlib.Omega.{arith}
use borrow.Author.Tests.{eqb-true, ltb-false}
use lib.Dec.{eqb, ltb, lit≤}
use lib.ListN.{length, get_or}
use Rattle.octets.specs.Bytes.{Bytes}
use Rattle.std.specs.Prelude.{if◌then◌else◌}
use Rattle.field_expected.specs.Wanted.{lacks, tag_of, need_of, rank}
use Rattle.field_object.specs.Object.{read_object}
use Rattle.field_read.specs.Field.{none, noted, ended, on_object, walk, read_field}
use Rattle.field_expected.specs.declared.Second.{Second}
use Rattle.field_expected.specs.declared.Wanted.{Wanted}
use Rattle.field_object.specs.declared.Breach.{Breach}
use Rattle.field_object.specs.declared.DataObject.{DataObject}
use Rattle.std.specs.Prelude.{Result, Ok, Err}
use Rattle.field_read.specs.declared.Objects.{Objects}
use Rattle.field_read.specs.declared.FieldError.{FieldError}
use Rattle.field_read.specs.declared.FieldError.TheVariants.{Malformed, Missing}
use Rattle.field_object.proofs.Inversion.{Stands, stands, later, rank_most}

-- an object of that tag stands from at to next and takes the objects from o to o'
pub record Part (w : Wanted) (xs : Bytes) (at tag next : ℕ) (o o' : Objects) : Type 0 where
  pub r : ℕ
  pub d : DataObject
  pub here : Stands w r xs at d
  pub tagged : get_or xs at 0 ≡ tag
  pub ends : d.next ≡ next
  pub notes : noted o d ≡ o'

abbrev pub Optional : Wanted → Bytes → ℕ → ℕ → ℕ → Objects → Objects → Type 0
Optional w xs at tag next o o' = ((next ≡ at) × (o' ≡ o)) ⊎ Part w xs at tag next o o'

-- the second object and '8E', from index at on
pub record Tail (w : Wanted) (xs : Bytes) (at : ℕ) (o p : Objects) : Type 0 where
  pub b : ℕ
  pub o2 : Objects
  pub second : Optional w xs at (tag_of w.second) b o o2
  pub last : Part w xs b 0x8E (length xs) o2 p

-- nothing that must be there lacks
abbrev pub Complete : Wanted → Objects → Type 0
Complete w p = (lacks w.«data» (ltb 0 p.ciphertext_len) ≡ false) × (lacks (need_of w.second) p.second ≡ false)

pub record Accepted (w : Wanted) (xs : Bytes) (p : Objects) : Type 0 where
  pub a : ℕ
  pub o1 : Objects
  pub first : Optional w xs 0 0x87 a none o1
  pub tail : Tail w xs a o1 p

-- ---- the places of the tags

abbrev place : Bool → Bool → Bool → ℕ
place s t u = if s then 1 else (if t then 2 else (if u then 3 else 0))

-- the tags of the list, with their places
abbrev Which : Second → ℕ → Type 0
Which second tag =
    ((tag ≡ 0x87) × (rank second tag ≡ 1))
    ⊎ (((tag ≡ tag_of second) × (rank second tag ≡ 2)) ⊎ ((tag ≡ 0x8E) × (rank second tag ≡ 3)))

which : (second : Second) (tag r : ℕ) → r < rank second tag
    → Which second tag
unfolding rank
which second tag r h = go (eqb tag 0x87) refl (eqb tag (tag_of second)) refl (eqb tag 0x8E) refl h
  where
    go : (s : Bool) → eqb tag 0x87 ≡ s → (t : Bool) → eqb tag (tag_of second) ≡ t → (u : Bool) → eqb tag 0x8E ≡ u
        → r < place s t u
        → ((tag ≡ 0x87) × (place s t u ≡ 1)) ⊎ (((tag ≡ tag_of second) × (place s t u ≡ 2)) ⊎ ((tag ≡ 0x8E) × (place s t u ≡ 3)))
    go true e t f u g h = inl (eqb-true tag 0x87 e, refl)
    go false e true f u g h = inr (inl (eqb-true tag (tag_of second) f, refl))
    go false e false f true g h = inr (inr (eqb-true tag 0x8E g, refl))
    go false e false f false g h = let z : ⊥ = omega arith in absurd z

-- ---- one step of the walk, and its end

no_breach : {b : Breach} {p : Objects} {P : Type 0} → ◌≡◌ {A = Result Objects FieldError} (Err (Malformed b)) (Ok p) → P
no_breach e = let z : ◌≡◌ {A = ℕ} 0 1 = cc in let n : ⊥ = omega arith in absurd n

none_missing : {tag n : ℕ} {p : Objects} {P : Type 0} → ◌≡◌ {A = Result Objects FieldError} (Err (Missing tag n)) (Ok p) → P
none_missing e = let z : ◌≡◌ {A = ℕ} 0 1 = cc in let n : ⊥ = omega arith in absurd n

read_same : {o p : Objects} → ◌≡◌ {A = Result Objects FieldError} (Ok o) (Ok p) → o ≡ p
read_same e = cc

ended_read : (w : Wanted) (o : Objects) (r n : ℕ) (p : Objects) → ended w o r n ≡ Ok p → (3 ≤ r) × (o ≡ p)
unfolding ended
ended_read w o r n p e = go (lacks w.«data» (ltb 0 o.ciphertext_len)) (lacks (need_of w.second) o.second) (ltb r 3) refl e
  where
    go : (s t u : Bool) → ltb r 3 ≡ u
        → (if s then Err (Missing 0x87 n) else (if t then Err (Missing (tag_of w.second) n) else (if u then Err (Missing 0x8E n) else Ok o))) ≡ Ok p
        → (3 ≤ r) × (o ≡ p)
    go true t u g h = none_missing h
    go false true u g h = none_missing h
    go false false true g h = none_missing h
    go false false false g h = (ltb-false r 3 g, read_same h)

-- the walk goes on with an object at index at
abbrev Goes : Wanted → Bytes → Objects → ℕ → Objects → ℕ → ℕ → Type 0
Goes w xs p k o r at = (d : DataObject) × (Stands w r xs at d × (walk k w xs (noted o d) (rank w.second d.tag) d.next ≡ Ok p))

ended_complete : (w : Wanted) (o : Objects) (r n : ℕ) (p : Objects) → ended w o r n ≡ Ok p → Complete w o
unfolding ended
ended_complete w o r n p e =
    go (lacks w.«data» (ltb 0 o.ciphertext_len)) refl (lacks (need_of w.second) o.second) refl (ltb r 3) e
  where
    go : (s : Bool) → lacks w.«data» (ltb 0 o.ciphertext_len) ≡ s → (t : Bool) → lacks (need_of w.second) o.second ≡ t → (u : Bool)
        → (if s then Err (Missing 0x87 n) else (if t then Err (Missing (tag_of w.second) n) else (if u then Err (Missing 0x8E n) else Ok o))) ≡ Ok p → Complete w o
    go true f t g u h = none_missing h
    go false f true g u h = none_missing h
    go false f false g u h = (f, g)

module _ (w : Wanted) (xs : Bytes) (p : Objects) where
  step : (k : ℕ) (o : Objects) (r at : ℕ) → walk (suc k) w xs o r at ≡ Ok p
      → ((length xs ≤ at) × (ended w o r (length xs) ≡ Ok p))
      ⊎ Goes w xs p k o r at
  unfolding walk on_object
  step k o r at e = go (ltb at (length xs)) refl (read_object w r xs at) refl e
    where
      go : (t : Bool) → ltb at (length xs) ≡ t → (q : Result DataObject Breach) → read_object w r xs at ≡ q
          → (if t then on_object q (λ d. walk k w xs (noted o d) (rank w.second d.tag) d.next) else ended w o r (length xs)) ≡ Ok p
          → ((length xs ≤ at) × (ended w o r (length xs) ≡ Ok p))
          ⊎ Goes w xs p k o r at
      go false f q g h = inl (ltb-false at (length xs) f, h)
      go true f (Ok d) g h = inr (d, (stands w r xs at d g, h))
      go true f (Err b) g h = no_breach h

  -- before '8E' the field cannot have ended
  more : (k : ℕ) (o : Objects) (r at : ℕ) → r < 3 → walk (suc k) w xs o r at ≡ Ok p
      → Goes w xs p k o r at
  more k o r at h e = go (step k o r at e)
    where
      go : ((length xs ≤ at) × (ended w o r (length xs) ≡ Ok p))
          ⊎ Goes w xs p k o r at
          → Goes w xs p k o r at
      go (inl (l, f)) = let g : 3 ≤ r = (ended_read w o r (length xs) p f).0 in let z : ⊥ = omega arith in absurd z
      go (inr s) = s

  -- after '8E' it must have
  no_more : (k : ℕ) (o : Objects) (r at : ℕ) → 3 ≤ r → walk (suc k) w xs o r at ≡ Ok p → (length xs ≤ at) × (o ≡ p)
  no_more k o r at h e = go (step k o r at e)
    where
      go : ((length xs ≤ at) × (ended w o r (length xs) ≡ Ok p))
          ⊎ Goes w xs p k o r at
          → (length xs ≤ at) × (o ≡ p)
      go (inl (l, f)) = (l, (ended_read w o r (length xs) p f).1)
      go (inr (d, (s, f))) =
          let m : rank w.second (get_or xs at 0) ≤ 3 = rank_most w.second (get_or xs at 0) in
          let l : r < rank w.second (get_or xs at 0) = later w r (get_or xs at 0) s.ok in
          let z : ⊥ = omega arith in absurd z

  -- ---- the parts of a field, from the last to the first

  next_within : {r at : ℕ} {d : DataObject} → Stands w r xs at d → d.next ≤ length xs
  next_within {r} {at} {d} s = let e : d.next ≡ at + 1 + s.size + s.n = ap (λ (d : DataObject). d.next) s.same in omega (arith, e, s.inside)

  place_of : {r at : ℕ} {d : DataObject} → Stands w r xs at d → rank w.second d.tag ≡ rank w.second (get_or xs at 0)
  place_of {r} {at} {d} s = ap (λ (d : DataObject). rank w.second d.tag) s.same

  mac_part : (k : ℕ) (o : Objects) (r at : ℕ) (d : DataObject) → Stands w r xs at d → get_or xs at 0 ≡ 0x8E → rank w.second (get_or xs at 0) ≡ 3
      → walk (suc k) w xs (noted o d) (rank w.second d.tag) d.next ≡ Ok p → Part w xs at 0x8E (length xs) o p
  mac_part k o r at d s t h e =
      let q : (length xs ≤ d.next) × (noted o d ≡ p) = no_more k (noted o d) (rank w.second d.tag) d.next (omega (arith, place_of s, h)) e in
      record { r = r; d = d; here = s; tagged = t; ends = omega (arith, q.0, next_within s); notes = q.1 }

  mac_last : (k : ℕ) (o : Objects) (r at : ℕ) → r ≡ 2 → walk (suc (suc k)) w xs o r at ≡ Ok p → Part w xs at 0x8E (length xs) o p
  mac_last k o r at h e = go (more (suc k) o r at (omega arith) e)
    where
      go : Goes w xs p (suc k) o r at → Part w xs at 0x8E (length xs) o p
      go (d, (s, f)) = by (which w.second (get_or xs at 0) r (later w r (get_or xs at 0) s.ok))
        where
          by : Which w.second (get_or xs at 0) → Part w xs at 0x8E (length xs) o p
          by (inl (t, g)) = let z : ⊥ = omega (arith, later w r (get_or xs at 0) s.ok, g, h) in absurd z
          by (inr (inl (t, g))) = let z : ⊥ = omega (arith, later w r (get_or xs at 0) s.ok, g, h) in absurd z
          by (inr (inr (t, g))) = mac_part k o r at d s t g f

  tail_from : (k : ℕ) (o : Objects) (r at : ℕ) (d : DataObject) → Stands w r xs at d → 1 < rank w.second (get_or xs at 0)
      → walk (suc (suc k)) w xs (noted o d) (rank w.second d.tag) d.next ≡ Ok p → Tail w xs at o p
  tail_from k o r at d s h e = by (which w.second (get_or xs at 0) 1 h)
    where
      by : Which w.second (get_or xs at 0) → Tail w xs at o p
      by (inl (t, g)) = let z : ⊥ = omega (arith, g, h) in absurd z
      by (inr (inl (t, g))) =
          record {
            b = d.next;
            o2 = noted o d;
            second = inr (record { r = r; d = d; here = s; tagged = t; ends = refl; notes = refl });
            last = mac_last k (noted o d) (rank w.second d.tag) d.next (place_of s ∙ g) e;
          }
      by (inr (inr (t, g))) = record { b = at; o2 = o; second = inl (refl, refl); last = mac_part (suc k) o r at d s t g e }

  pub accepted : read_field w xs ≡ Ok p → Accepted w xs p
  unfolding read_field
  accepted e = go (more 3 none 0 0 (lit≤ tt) e)
    where
      behind_data : (d : DataObject) → Stands w 0 xs 0 d → get_or xs 0 0 ≡ 0x87 → rank w.second (get_or xs 0 0) ≡ 1
          → Goes w xs p 2 (noted none d) (rank w.second d.tag) d.next → Accepted w xs p
      behind_data d s t g (d2, (s2, f)) =
          record {
            a = d.next;
            o1 = noted none d;
            first = inr (record { r = 0; d = d; here = s; tagged = t; ends = refl; notes = refl });
            tail =
                tail_from 0 (noted none d) (rank w.second d.tag) d.next d2 s2
                (omega (arith, later w (rank w.second d.tag) (get_or xs d.next 0) s2.ok, place_of s, g)) f;
          }

      go : Goes w xs p 3 none 0 0 → Accepted w xs p
      go (d, (s, f)) = by (which w.second (get_or xs 0 0) 0 (later w 0 (get_or xs 0 0) s.ok))
        where
          at_once : 1 < rank w.second (get_or xs 0 0) → Accepted w xs p
          at_once h = record { a = 0; o1 = none; first = inl (refl, refl); tail = tail_from 1 none 0 0 d s h f }

          by : Which w.second (get_or xs 0 0) → Accepted w xs p
          by (inl (t, g)) = behind_data d s t g (more 2 (noted none d) (rank w.second d.tag) d.next (omega (arith, place_of s, g)) f)
          by (inr (inl (t, g))) = at_once (omega (arith, g))
          by (inr (inr (t, g))) = at_once (omega (arith, g))

  at_end : (o : Objects) (r : ℕ) → ended w o r (length xs) ≡ Ok p → Complete w p
  at_end o r e = subst (Complete w) (ended_read w o r (length xs) p e).1 (ended_complete w o r (length xs) p e)

  complete : (k : ℕ) (o : Objects) (r at : ℕ) → walk k w xs o r at ≡ Ok p → Complete w p
  unfolding walk
  complete zero o r at e = at_end o r e
  complete (suc k) o r at e = go (complete k) (step k o r at e)
    where
      go : ((o : Objects) (r at : ℕ) → walk k w xs o r at ≡ Ok p → Complete w p)
          → ((length xs ≤ at) × (ended w o r (length xs) ≡ Ok p)) ⊎ Goes w xs p k o r at → Complete w p
      go rest (inl (l, f)) = at_end o r f
      go rest (inr (d, (s, f))) = rest (noted o d) (rank w.second d.tag) d.next f

  pub all_there : read_field w xs ≡ Ok p → Complete w p
  unfolding read_field
  all_there e = complete 4 none 0 0 e
