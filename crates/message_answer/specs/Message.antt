-- Commands and responses: what stands in the clear, and the data.
use Rattle.std.specs.Prelude.{Bool, ℕ}
use Rattle.octets.specs.Bytes.{Bytes}
use Rattle.apdu.specs.Apdu as apdu
use Rattle.apdu.specs.declared.Header.{Header}
pub use Rattle.apdu.specs.declared.StatusWord.{StatusWord}
pub use Rattle.apdu.specs.Apdu.{status}

-- INS, P1, P2, and whether Le is present
pub record CommandHeader : Type 0 where
  pub ins : ℕ
  pub p1 : ℕ
  pub p2 : ℕ
  pub le : Bool

abbrev pub header : ℕ → ℕ → ℕ → Bool → CommandHeader
header ins p1 p2 le = record { ins = ins; p1 = p1; p2 = p2; le = le }

-- a header, and whether Le is present
abbrev pub command_header : Header → Bool → CommandHeader
command_header h le = header h.ins h.p1 h.p2 le

-- without Le
abbrev pub header_of : CommandHeader → Header
header_of h = apdu.header h.ins h.p1 h.p2

pub record Message (H : Type 0) : Type 0 where
  pub header : H
  pub payload : Bytes

abbrev pub Command : Type 0
Command = Message CommandHeader

abbrev pub Response : Type 0
Response = Message StatusWord

-- what the unwrapping of a command gives
pub record CommandGiven : Type 0 where
  pub payload : Bytes
  pub le : Bool

-- ---- the limits; src/lib.rt has each as a constant of the same name, but for the last, which is the session's own

abbrev pub max_command_data : ℕ
max_command_data = 2047

abbrev pub max_response_data : ℕ
max_response_data = 16383

-- of fields that are read
abbrev pub max_command_field : ℕ
max_command_field = 2066

abbrev pub max_response_field : ℕ
max_response_field = 16403

-- of encrypted data that is read
abbrev pub max_command_ciphertext : ℕ
max_command_ciphertext = 2048

abbrev pub max_response_ciphertext : ℕ
max_response_ciphertext = 16384

-- commands in a session
abbrev pub command_limit : ℕ
command_limit = 65535

-- ---- SW1 of "more bytes are available"

abbrev pub more_sw1 : ℕ
more_sw1 = 0x61
