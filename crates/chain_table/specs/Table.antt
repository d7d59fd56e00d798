-- Rules 11.1 to 11.5, as one table with a single statement about the definitions that the calls use.
use Rattle.std.specs.Prelude.{◌≡◌, Bool, true, false, List, [], ◌∷◌, map, ℕ, zero, suc, ◌+◌, ◌-◌, ltb, length, take}
use Rattle.octets.specs.Bytes.{Bytes, zeros, tabulate}
use Rattle.std.specs.Prelude.{if◌then◌else◌}
use Rattle.field_size.specs.Lengths.{ciphertext_length, command_length, response_length}
use Rattle.field_write.specs.Objects.{encrypted_data}
use Rattle.apdu.specs.Apdu.{header}
use Rattle.chain_command.specs.Apdu.{lc}
use Rattle.chain_command.specs.Fragment.{fragment_count, fragment as commandFragment}
use Rattle.chain_response.specs.Fragment.{fragment_data, next}

-- ---- what a line asks of P bytes of data

pub data Question : Type 0 where
  -- E
  ciphertext : ℕ → Question
  -- the tag and the length of '87', as bytes
  tag_and_length : ℕ → Question
  -- the field's length, with Le or without
  command : ℕ → Bool → Question
  response : ℕ → Question
  -- the length of each fragment, by the largest size
  command_fragments : ℕ → Bool → Question
  response_fragments : ℕ → Question

-- the lengths of the fragments that a response field is handed out in, from an index on: each starts where the one before it ended, while anything is left;
-- the first number is larger than how many there can be
unfoldable pub handed_out : ℕ → Bytes → ℕ → List ℕ
handed_out zero field at = []
handed_out (suc n) field at =
    if ltb at (length field) then length (fragment_data field at 0x00) ∷ handed_out n field (next field at 0x00) else []

unfoldable pub answer : Question → List ℕ
answer (ciphertext p) = ciphertext_length p ∷ []
answer (tag_and_length p) =
    let e = ciphertext_length p in let object = encrypted_data (zeros e) in take (length object - (e + 1)) object
answer (command p le) = command_length p le ∷ []
answer (response p) = response_length p ∷ []
answer (command_fragments p le) =
    let n = command_length p le in tabulate (fragment_count n 255) (λ k. lc (commandFragment (header 0 0 0) (zeros n) 255 k))
answer (response_fragments p) = handed_out 100 (zeros (response_length p)) 0

-- ---- the table

pub record Line : Type 0 where
  pub asks : Question
  pub gives : List ℕ

infix 4 ◌is◌
abbrev pub ◌is◌ : Question → List ℕ → Line
q is ns = record { asks = q; gives = ns }

abbrev pub table : List Line
table =
    (ciphertext 15 is 16 ∷ [])
    ∷ (ciphertext 16 is 32 ∷ [])
    ∷ (tag_and_length 111 is 0x87 ∷ 0x71 ∷ [])
    ∷ (tag_and_length 112 is 0x87 ∷ 0x81 ∷ 0x81 ∷ [])
    ∷ (tag_and_length 239 is 0x87 ∷ 0x81 ∷ 0xF1 ∷ [])
    ∷ (tag_and_length 240 is 0x87 ∷ 0x82 ∷ 0x01 ∷ 0x01 ∷ [])
    ∷ (command 8 false is 29 ∷ [])
    ∷ (command 5 true is 32 ∷ [])
    ∷ (command 0 false is 10 ∷ [])
    ∷ (command 239 false is 254 ∷ [])
    ∷ (command 239 true is 257 ∷ [])
    ∷ (command_fragments 239 true is 255 ∷ 2 ∷ [])
    ∷ (command 2047 true is 2066 ∷ [])
    ∷ (command_fragments 2047 true is 255 ∷ 255 ∷ 255 ∷ 255 ∷ 255 ∷ 255 ∷ 255 ∷ 255 ∷ 26 ∷ [])
    ∷ (ciphertext 1423 is 1424 ∷ [])
    ∷ (response 1423 is 1443 ∷ [])
    ∷ (response_fragments 1423 is 256 ∷ 256 ∷ 256 ∷ 256 ∷ 256 ∷ 163 ∷ [])
    ∷ []

abbrev pub LinesHold : Type 0
LinesHold = map (λ line. answer line.asks) table ≡ map (λ line. line.gives) table
