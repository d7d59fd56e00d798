-- A transcript that the checker computes, in directions small enough for that: a command with its response, and a second command outstanding.
use mathlib.Core.Path.{◌≡◌, refl, ap}
use mathlib.Core.List.{List, [], ◌∷◌, ◌++◌}
use Prim.Native.Nat.{ℕ}
use native.Mathlib.Omega.{arith}
use lib.ListN.{length, get_or}
use Rattle.octets.specs.Bytes.{Bytes, zeros}
use Rattle.field_ber_length.specs.Length.{length_field}
use Rattle.field_write.specs.Objects.{object, mac_object}
use Rattle.message_answer.specs.Message.{Message}
use Rattle.message_exchange.specs.Exchange.{Entry, Logs, Direction, wrap_entry, field_of, fields_from, wraps, accepts, empty_logs, Transcript, Agrees}

-- the data with its place before it, objects with the header before them, an input with the log's length before it, and a MAC that is the input
toy : Direction ℕ
toy =
    record {
      encrypt = λ place d. place ∷ d;
      objects = λ h c. h ∷ c;
      input = λ log h covered. length log ∷ covered;
      mac = λ input. input ++ zeros 16;
    }

m1 : Message ℕ
m1 = record { header = 5; payload = 7 ∷ [] }

m2 : Message ℕ
m2 = record { header = 6; payload = 9 ∷ [] }

field1 : Bytes
field1 = 5 ∷ 1 ∷ 7 ∷ 0x8E ∷ 8 ∷ 0 ∷ 5 ∷ 1 ∷ 7 ∷ 0 ∷ 0 ∷ 0 ∷ 0 ∷ []

field2 : Bytes
field2 = 6 ∷ 2 ∷ 9 ∷ 0x8E ∷ 8 ∷ 1 ∷ 6 ∷ 2 ∷ 9 ∷ 0 ∷ 0 ∷ 0 ∷ 0 ∷ []

x1 : Entry ℕ
x1 = record { message = m1; input = 0 ∷ 5 ∷ 1 ∷ 7 ∷ [] }

-- one message wrapped and accepted; and then another wrapped, for which that field was handed out
one : Logs ℕ
one = accepts x1 (wraps toy m1 field1 empty_logs)

outstanding : Bytes → Transcript ℕ ℕ
outstanding field = record { commands = wraps toy m2 field one; responses = one }

record Computed : Type 0 where
  first_entry : wrap_entry toy m1 [] ≡ x1
  second_entry : wrap_entry toy m2 (x1 ∷ []) ≡ record { message = m2; input = 1 ∷ 6 ∷ 2 ∷ 9 ∷ [] }
  fields : fields_from toy 1 (x1 ∷ wrap_entry toy m2 (x1 ∷ []) ∷ []) ≡ field1 ∷ field2 ∷ []
  agrees : Agrees toy toy (outstanding field2)
  field_differs : Agrees toy toy (outstanding field1) → ⊥

computed : Computed
unfolding length_field object mac_object wrap_entry field_of fields_from toy m1 m2 field1 field2 x1 one outstanding
computed =
    record {
      first_entry = refl;
      second_entry = refl;
      fields = refl;
      agrees =
          record {
            r≤s = omega arith;
            s≤a = omega arith;
            a≤w = omega arith;
            w≤r+1 = omega arith;
            commands_agree = refl;
            responses_agree = refl;
            commands_written = refl;
            responses_written = refl;
          };
      field_differs = λ v. let e : ◌≡◌ {A = ℕ} 5 6 = ap (λ (fs : List Bytes). get_or (get_or fs 1 []) 0 0) v.commands_written in omega (arith, e);
    }
