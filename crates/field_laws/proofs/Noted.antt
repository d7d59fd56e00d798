-- What each object of a field notes, by its tag; and the places of the tags.
use mathlib.Core.Path.{◌≡◌, refl, sym, ◌∙◌}
use mathlib.Core.Bool.{true}
use Prim.Native.Nat.{◌+◌, ◌-◌}
use native.Mathlib.Omega.{arith}
use borrow.Author.Tests.{eq-eqb, ne_eqb}
use Rattle.field_expected.specs.Wanted.{tag_of, rank}
use Rattle.field_read.specs.Field.{noted}
use Rattle.field_expected.specs.declared.Second.{Second}
use Rattle.field_expected.specs.declared.Second.TheVariants.{Le, Status}
use Rattle.field_object.specs.declared.DataObject.{DataObject}
use Rattle.field_read.specs.declared.Objects.{Objects}

pub not_data : (second : Second) → tag_of second ≡ 0x87 → ⊥
not_data (Le need) q = omega arith
not_data (Status sw1 sw2) q = omega arith

pub not_mac : (second : Second) → tag_of second ≡ 0x8E → ⊥
not_mac (Le need) q = omega arith
not_mac (Status sw1 sw2) q = omega arith

-- ---- what each object notes

module _ (o : Objects) (d : DataObject) where
  pub noted_data : d.tag ≡ 0x87
      → noted o d ≡ record { ciphertext = d.value + 1; ciphertext_len = d.len - 1; second = o.second; mac_start = o.mac_start; mac = o.mac }
  unfolding noted
  noted_data e = rw (eq-eqb d.tag 0x87 e)

  pub noted_mac : d.tag ≡ 0x8E
      → noted o d ≡ record { ciphertext = o.ciphertext; ciphertext_len = o.ciphertext_len; second = o.second; mac_start = d.start; mac = d.value }
  unfolding noted
  noted_mac e =
      let f : d.tag ≡ 0x87 → ⊥ = λ q. omega (arith, e, q) in
      rw (ne_eqb d.tag 0x87 f, eq-eqb d.tag 0x8E e)

  pub noted_second : (second : Second) → d.tag ≡ tag_of second
      → noted o d ≡ record { ciphertext = o.ciphertext; ciphertext_len = o.ciphertext_len; second = true; mac_start = o.mac_start; mac = o.mac }
  unfolding noted
  noted_second second e = rw (ne_eqb d.tag 0x87 (λ q. not_data second (sym e ∙ q)), ne_eqb d.tag 0x8E (λ q. not_mac second (sym e ∙ q)))

-- ---- places

pub rank_data : (second : Second) → rank second 0x87 ≡ 1
unfolding rank
rank_data second = refl

pub rank_second : (second : Second) → rank second (tag_of second) ≡ 2
unfolding rank
rank_second (Le need) = refl
rank_second (Status sw1 sw2) = refl

pub rank_mac : (second : Second) → rank second 0x8E ≡ 3
unfolding rank
rank_mac (Le need) = refl
rank_mac (Status sw1 sw2) = refl
