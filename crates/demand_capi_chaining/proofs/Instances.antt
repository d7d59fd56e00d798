-- Calls that demand 2 is about, run by the checker: the fragments of a field, each handed on.
use mathlib.Core.Path.{◌≡◌, refl}
use mathlib.Core.Bool.{Bool, true, ◌&&◌}
use mathlib.Core.List.{[], ◌∷◌, ◌++◌}
use Prim.Native.Nat.{ℕ, zero, suc}
use native.Mathlib.Omega.{arith}
use borrow.Author.Tests.{leb-true, ltb-true}
use lib.Dec.{ltb}
use Rattle.octets.specs.Bytes.{Bytes, IsBytes, zeros}
use Rattle.octets.specs.Write.{over, put}
use Rattle.octets.proofs.Tests.{both}
use Rattle.apdu.specs.Apdu.{header, status}
use Rattle.message_answer.specs.Answer.{require◌else◌⨾◌, buffer}
use Rattle.message_permission.specs.Permission.{status_permitted}
use Rattle.chain_command.specs.Apdu.{fragment_apdu, is_chained, is_last, well_formed}
use Rattle.chain_command.specs.Fragment.{fragment_size, fragment_count, fragment, fragment_command}
use Rattle.chain_command.specs.Reassembly.{possible, continues, reassembly_checks, taken, concluded, reassemble_command, written, reassembly_buffer}
use Rattle.chain_response.specs.Fragment.{asked, announced, fragment_data, fragment_status, next, fragment as responseFragment, fragment_response}
use Rattle.chain_response.specs.Reassembly.{is_more, well_formed as responseWellFormed, possible as responsePossible, reassembly_checks as responseChecks, taken as response_taken, concluded as responseConcluded, reassemble_response, written as response_written, reassembly_buffer as responseBuffer}
use Rattle.capi_reassemble_command.specs.ChainNumbers.{chain_number, chain_of}
use Rattle.demand_capi_chaining.specs.Calls.{FragmentsCommand, ReassemblesCommand, FragmentsResponse, ReassemblesResponse}
use Rattle.demand_capi_chaining.specs.CommandChaining.{AsksAll, Handed as CommandHanded}
use Rattle.demand_capi_chaining.specs.ResponseChaining.{Handed as ResponseHanded}
use Rattle.demand_capi_chaining.proofs.Exists.{fragments-command, reassembles-command, fragments-response, reassembles-response}

-- ---- lists of bytes, by a test

all_bytes : Bytes → Bool
all_bytes [] = true
all_bytes (x ∷ xs) = ltb x 256 && all_bytes xs

are_bytes : (xs : Bytes) → all_bytes xs ≡ true → IsBytes xs
unfolding all_bytes
are_bytes [] e i l = omega arith
are_bytes (x ∷ xs) e zero l = ltb-true x 256 (both (ltb x 256) (all_bytes xs) e).0
are_bytes (x ∷ xs) e (suc i) l = are_bytes xs (both (ltb x 256) (all_bytes xs) e).1 i (omega arith)

-- ---- a command's field of five bytes, by two

abbrev field : Bytes
field = 0x21 ∷ 0x22 ∷ 0x23 ∷ 0x24 ∷ 0x25 ∷ []

abbrev command_fragment : ℕ → FragmentsCommand
command_fragment k = fragments-command 0x87 0x11 0x9A field 2 k (zeros 9)

abbrev takes : ℕ → (apdu : Bytes) → Bytes → all_bytes apdu ≡ true → ReassemblesCommand
takes chain apdu held e = reassembles-command chain apdu held (are_bytes apdu e)

first : ReassemblesCommand
unfolding all_bytes
first = takes 0 (0x1C ∷ 0x87 ∷ 0x11 ∷ 0x9A ∷ 2 ∷ 0x21 ∷ 0x22 ∷ []) (zeros 6) refl

second : ReassemblesCommand
unfolding all_bytes
second = takes 0x0287119A (0x1C ∷ 0x87 ∷ 0x11 ∷ 0x9A ∷ 2 ∷ 0x23 ∷ 0x24 ∷ []) (0x21 ∷ 0x22 ∷ zeros 4) refl

third : ReassemblesCommand
unfolding all_bytes
third = takes 0x0487119A (0x0C ∷ 0x87 ∷ 0x11 ∷ 0x9A ∷ 1 ∷ 0x25 ∷ 0x00 ∷ []) (0x21 ∷ 0x22 ∷ 0x23 ∷ 0x24 ∷ zeros 2) refl

command_asked : AsksAll (header 0x87 0x11 0x9A) field 2 0 (command_fragment 0 ∷ command_fragment 1 ∷ command_fragment 2 ∷ [])
unfolding fragment fragment_size fragment_count fragment_apdu
command_asked =
    let fits = leb-true 7 9 refl in (
      record { of_header = refl; of_field = refl; of_size = refl; of_number = refl; room = fits },
      (
        record { of_header = refl; of_field = refl; of_size = refl; of_number = refl; room = fits },
        (record { of_header = refl; of_field = refl; of_size = refl; of_number = refl; room = fits }, refl),
      ),
    )

command_handed : CommandHanded 0 (zeros 6) (command_fragment 0 ∷ command_fragment 1 ∷ command_fragment 2 ∷ []) (first ∷ second ∷ third ∷ [])
unfolding first second third fragment_command require◌else◌⨾◌ fragment fragment_size fragment_count fragment_apdu buffer over
    reassemble_command concluded taken reassembly_checks possible continues well_formed is_chained is_last reassembly_buffer written put chain_number chain_of
command_handed = ((refl, refl, refl), ((refl, refl, refl), ((refl, refl, refl), tt)))

-- ---- a response's field of 257 bytes

abbrev long : Bytes
long = zeros 256 ++ 0x25 ∷ []

abbrev response_fragment : ℕ → ℕ → FragmentsResponse
response_fragment at le = fragments-response 0x6281 long at le (zeros 258)

abbrev takes_response : ℕ → (apdu : Bytes) → Bytes → all_bytes apdu ≡ true → ReassemblesResponse
takes_response chain apdu held e = reassembles-response chain apdu held (are_bytes apdu e)

begun : ReassemblesResponse
unfolding all_bytes
begun = takes_response 0 (zeros 256 ++ 0x61 ∷ 0x01 ∷ []) (zeros 258) refl

ended : ReassemblesResponse
unfolding all_bytes
ended = takes_response 256 (0x25 ∷ 0x62 ∷ 0x81 ∷ []) (zeros 258) refl

response_handed : ResponseHanded (status 0x62 0x81) long 0 0x00 0 (zeros 258) (response_fragment 0 0x00 ∷ response_fragment 256 0x01 ∷ []) (begun ∷ ended ∷ [])
unfolding begun ended fragment_response require◌else◌⨾◌ status_permitted responseFragment fragment_status announced next fragment_data asked buffer over
    reassemble_response responseConcluded response_taken responseChecks responsePossible responseWellFormed is_more responseBuffer response_written put
response_handed = (
  (record { of_status = refl; of_field = refl; of_index = refl; of_le = refl; room = leb-true 258 258 refl }, refl, refl, refl),
  ((record { of_status = refl; of_field = refl; of_index = refl; of_le = refl; room = leb-true 3 258 refl }, refl, refl, refl), tt),
)
