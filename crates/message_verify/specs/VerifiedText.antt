-- Rules 2.5 and 6.4: the stages of an unwrap after the reading, which are the same for a command and a response: room, MAC, text.
use Rattle.std.specs.Prelude.{◌≡◌, ℕ, ◌%◌, ◌≤◌, leb, length, take, Result, Ok, Err}
use Rattle.octets.specs.Bytes.{Bytes}
use Rattle.field_read.specs.Field.{ciphertext_of, mac_of}
use Rattle.field_read.specs.declared.Objects.{Objects}
use Rattle.refusal.specs.declared.Refusal.{Refusal}
use Rattle.refusal.specs.declared.Refusal.TheVariants.{BufferTooSmall, BadMac}
use Rattle.message_answer.specs.Message.{max_response_ciphertext}
use Rattle.message_answer.specs.Answer.{Answer, refused, gave, require◌else◌⨾◌}
use Rattle.message_ciphers.specs.Ciphers.{Ciphers}
use Rattle.message_mac.specs.Same.{same}
use Rattle.message_verify.specs.Reading.{text_of}

-- what was received of a message: the eight bytes in '8E', and the ciphertext in '87'
pub record Received : Type 0 where
  pub mac : Bytes
  pub ciphertext : Bytes

abbrev pub received : Bytes → Bytes → Received
received mac ciphertext = record { mac = mac; ciphertext = ciphertext }

-- in a field whose objects are these
abbrev pub received_in : Bytes → Objects → Received
received_in field o = received (mac_of field o) (ciphertext_of field o)

-- as a field that is read holds it: a MAC of eight bytes, and whole blocks up to the longest ciphertext
pub record WellSized (r : Received) : Type 0 where
  pub mac_size : length r.mac ≡ 8
  pub blocks : length r.ciphertext % 16 ≡ 0
  pub short : length r.ciphertext ≤ max_response_ciphertext

-- the data, by SK_ENC, the message's counter, the full MAC that was computed, what was received, and the buffer's size
unfoldable pub verified_text : Ciphers → Bytes → Bytes → Bytes → Received → ℕ → Answer Bytes
verified_text C key counter full r room =
    require leb (length r.ciphertext) room else BufferTooSmall (length r.ciphertext) ⨾
    require same r.mac (take 8 full) else BadMac ⨾
    text_of (C.decrypt key counter r.ciphertext)

-- the data's length, or the refusal
abbrev pub verified : Answer Bytes → Result ℕ Refusal
verified (refused r) = Err r
verified (gave d) = Ok (length d)
