-- The bytes before '8E' of a written field say what was written.
use mathlib.Core.Path.{◌≡◌, refl, sym, ap, ◌∙◌}
use mathlib.Core.Bool.{Bool, true}
use Prim.Native.Nat.{ℕ, ◌+◌, ◌-◌, ◌%◌, ◌<◌}
use native.Mathlib.Omega.{arith}
use borrow.Author.Tests.{eq-eqb, le-leb}
use lib.ListN.{length}
use Rattle.octets.specs.Bytes.{Bytes, zeros}
use Rattle.field_write.specs.Objects.{command_objects, response_objects, command_field, response_field}
use Rattle.field_object.specs.Values.{right_size}
use Rattle.field_expected.specs.declared.Need.TheVariants.{May}
use Rattle.field_expected.specs.declared.Second.{Second}
use Rattle.field_expected.specs.declared.Second.TheVariants.{Le, Status}
use Rattle.field_expected.specs.declared.Wanted.{Wanted}
use Rattle.field_laws.specs.Covered.{data_in, second_in, sw1_in, sw2_in}
use Rattle.field_laws.specs.Written.{Suits, ReadsBack, WholeBlocks}
use Rattle.field_laws.proofs.Determined.{determined}
use Rattle.field_laws.proofs.ReadBack.{read_command_lem, read_response_lem}

-- a reader that wants whatever is there
any : Second → Wanted
any second = record { «data» = May; limit = 65519; second = second }

pub right_size_lem : (w : Wanted) (c : Bytes) → WholeBlocks w.limit c → 0 < length c → right_size w 0x87 (length c + 1) ≡ true
unfolding right_size
right_size_lem w c (b, l) h =
    let e : length c + 1 - 1 ≡ length c = omega arith in
    rw (e, le-leb 17 (length c + 1) (omega (arith, b)), eq-eqb (length c % 16) 0 b, le-leb (length c) w.limit l)

module _ (c : Bytes) (blocks : WholeBlocks 65519 c) where
  command : (le : Bool) → Suits (any (Le May)) c le
  unfolding any
  command le = record { encrypted = refl; size = right_size_lem (any (Le May)) c blocks; short = omega (arith, blocks.1); second = refl }

  response : (sw1 sw2 : ℕ) → Suits (any (Status sw1 sw2)) c true
  unfolding any
  response sw1 sw2 = record { encrypted = refl; size = right_size_lem (any (Status sw1 sw2)) c blocks; short = omega (arith, blocks.1); second = refl }

  read_any_command : (le : Bool) → ReadsBack (any (Le May)) (command_field c le (zeros 8)) c le (zeros 8) (command_objects c le)
  unfolding any
  read_any_command le = read_command_lem (any (Le May)) May c le (zeros 8) refl (command le) refl

  read_any_response : (sw1 sw2 : ℕ)
      → ReadsBack (any (Status sw1 sw2)) (response_field c sw1 sw2 (zeros 8)) c true (zeros 8) (response_objects c sw1 sw2)
  unfolding any
  read_any_response sw1 sw2 = read_response_lem (any (Status sw1 sw2)) sw1 sw2 c (zeros 8) refl (response sw1 sw2) refl

  pub command_data : (le : Bool) → data_in (command_objects c le) ≡ c
  command_data le =
      let b = read_any_command le in
      sym (ap data_in b.covers) ∙ sym (determined (any (Le May)) (command_field c le (zeros 8)) b.objects b.accepted).encrypted ∙ b.encrypted

  pub command_le : (le : Bool) → second_in (command_objects c le) ≡ le
  command_le le =
      let b = read_any_command le in
      sym (ap second_in b.covers) ∙ sym (determined (any (Le May)) (command_field c le (zeros 8)) b.objects b.accepted).present ∙ b.second

  pub response_data : (sw1 sw2 : ℕ) → data_in (response_objects c sw1 sw2) ≡ c
  response_data sw1 sw2 =
      let b = read_any_response sw1 sw2 in
      sym (ap data_in b.covers)
      ∙ sym (determined (any (Status sw1 sw2)) (response_field c sw1 sw2 (zeros 8)) b.objects b.accepted).encrypted
      ∙ b.encrypted

  pub response_status : (sw1 sw2 : ℕ) → (sw1_in (response_objects c sw1 sw2) ≡ sw1) × (sw2_in (response_objects c sw1 sw2) ≡ sw2)
  unfolding any
  response_status sw1 sw2 =
      let b = read_any_response sw1 sw2 in
      let d = (determined (any (Status sw1 sw2)) (response_field c sw1 sw2 (zeros 8)) b.objects b.accepted).status sw1 sw2 refl in
      (sym (ap sw1_in b.covers) ∙ d.0, sym (ap sw2_in b.covers) ∙ d.1)
