-- A written field has the length that its data and Le say.
use mathlib.Core.Path.{◌≡◌, refl, ap, ap₂, sym, ◌∙◌}
use mathlib.Core.Bool.{Bool, true, false}
use mathlib.Core.List.{[], ◌∷◌, ◌++◌, append_assoc}
use Prim.Native.Nat.{ℕ, ◌+◌}
use native.Mathlib.Omega.{arith}
use borrow.Author.Tests.{eq-eqb, ne_eqb}
use lib.Dec.{eqb}
use lib.ListN.{length, length-append}
use native.Mathlib.Numerals.{add-one}
use Rattle.octets.specs.Bytes.{Bytes}
use Rattle.std.specs.Prelude.{if◌then◌else◌}
use Rattle.field_ber_length.specs.Length.{length_field}
use Rattle.field_write.specs.Objects.{object, encrypted_data, le_object, status_word, mac_object, command_objects, response_objects, command_field, response_field}
use Rattle.field_size.specs.Lengths.{ciphertext_length, encrypted_data_length, command_length, response_length}

-- ---- each object's bytes

pub no_data : (c : Bytes) → length c ≡ 0 → encrypted_data c ≡ []
unfolding encrypted_data
no_data c e = rw (eq-eqb (length c) 0 e)

pub some_data : (c : Bytes) → (length c ≡ 0 → ⊥) → encrypted_data c ≡ 0x87 ∷ [] ++ length_field (length c + 1) ++ 0x01 ∷ [] ++ c
unfolding encrypted_data object
some_data c e =
    rw (ne_eqb (length c) 0 e) (ap (λ (n : ℕ). 0x87 ∷ length_field n ++ 0x01 ∷ c) (sym (add-one (length c)))
    ∙ ap (λ (l : Bytes). 0x87 ∷ l) (sym (append_assoc (length_field (length c + 1)) (0x01 ∷ []) c)))

pub le_present : le_object true ≡ 0x97 ∷ 0x01 ∷ 0x00 ∷ []
unfolding le_object object length_field
le_present = refl

pub le_absent : le_object false ≡ []
unfolding le_object
le_absent = refl

pub status_bytes : (sw1 sw2 : ℕ) → status_word sw1 sw2 ≡ 0x99 ∷ 0x02 ∷ sw1 ∷ sw2 ∷ []
unfolding status_word object length_field
status_bytes sw1 sw2 = refl

pub mac_bytes : (mac : Bytes) → length mac ≡ 8 → mac_object mac ≡ 0x8E ∷ 0x08 ∷ mac
unfolding mac_object object length_field
mac_bytes mac h = rw h

-- ---- their lengths

pub length-encrypted_data : (c : Bytes) → length (encrypted_data c) ≡ encrypted_data_length (length c)
unfolding encrypted_data encrypted_data_length object
length-encrypted_data c = go (eqb (length c) 0)
  where
    go : (t : Bool) → length (if t then [] else (0x87 ∷ length_field (length (0x01 ∷ c)) ++ 0x01 ∷ c))
        ≡ (if t then 0 else 2 + length (length_field (length c + 1)) + length c)
    go true = refl
    go false =
        let q : length (0x01 ∷ c) ≡ length c + 1 = sym (add-one (length c)) in
        rw q (omega (arith, length-append (length_field (length c + 1)) (0x01 ∷ c), q))

pub length-le_object : (le : Bool) → length (le_object le) ≡ (if le then 3 else 0)
length-le_object true = ap length le_present
length-le_object false = ap length le_absent

pub header_length : (n : ℕ) → length (0x87 ∷ [] ++ length_field n ++ 0x01 ∷ []) ≡ 2 + length (length_field n)
header_length n = omega (arith, length-append (length_field n) (0x01 ∷ []))

pub some_length : (c : Bytes) → (length c ≡ 0 → ⊥) → length (encrypted_data c) ≡ 2 + length (length_field (length c + 1)) + length c
unfolding encrypted_data_length
some_length c e = length-encrypted_data c ∙ rw (ne_eqb (length c) 0 e)

module _ (c : Bytes) where
  pub length_command_objects : (le : Bool) → length (command_objects c le) ≡ length (encrypted_data c) + length (le_object le)
  unfolding command_objects
  length_command_objects le = length-append (encrypted_data c) (le_object le)

  pub length_response_objects : (sw1 sw2 : ℕ) → length (response_objects c sw1 sw2) ≡ length (encrypted_data c) + 4
  unfolding response_objects
  length_response_objects sw1 sw2 =
      length-append (encrypted_data c) (status_word sw1 sw2)
      ∙ ap (λ (n : ℕ). length (encrypted_data c) + n) (ap length (status_bytes sw1 sw2))

-- ---- whole fields

module _ (c : Bytes) (p : ℕ) (e : length c ≡ ciphertext_length p) (mac : Bytes) (h : length mac ≡ 8) where
  last : length (mac_object mac) ≡ 10
  last = ap length (mac_bytes mac h) ∙ omega (arith, h)

  data_length_lem : length (encrypted_data c) ≡ encrypted_data_length (ciphertext_length p)
  data_length_lem = length-encrypted_data c ∙ ap encrypted_data_length e

  pub length_command_field : (le : Bool) → length (command_field c le mac) ≡ command_length p le
  unfolding command_field command_length
  length_command_field le =
      length-append (command_objects c le) (mac_object mac)
      ∙ ap₂ ◌+◌ (length_command_objects c le ∙ ap₂ ◌+◌ data_length_lem (length-le_object le)) last

  pub length_response_field : (sw1 sw2 : ℕ) → length (response_field c sw1 sw2 mac) ≡ response_length p
  unfolding response_field response_length
  length_response_field sw1 sw2 =
      length-append (response_objects c sw1 sw2) (mac_object mac)
      ∙ ap₂ ◌+◌ (length_response_objects c sw1 sw2 ∙ ap (λ (n : ℕ). n + 4) data_length_lem) last
