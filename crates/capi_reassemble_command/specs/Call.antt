-- pivsm_reassemble_command of c/include/pivsm.h: the data of one APDU, put behind what stands in the caller's buffer.
use Rattle.std.specs.Prelude.{ℕ, length}
use Rattle.octets.specs.Bytes.{Bytes}
use Rattle.chain_command.specs.Reassembly.{Reassembly, reassemble_command, reassembly_buffer}
use Rattle.chain_command.specs.declared.CommandChain.{CommandChain}
use Rattle.capi_values.specs.ChainingValues.{reassembly_values}
use Rattle.capi_reassemble_command.specs.ChainNumbers.{chain_number, chain_of}

-- what the call is given: the chain's number, the APDU, and the caller's buffer
pub record Given : Type 0 where
  pub chain : ℕ
  pub apdu : Bytes
  pub field : Bytes

abbrev pub given : ℕ → Bytes → Bytes → Given
given chain apdu field = record { chain = chain; apdu = apdu; field = field }

-- what it leaves: the result's number, and what stands in the caller's buffer and numbers
pub record Left : Type 0 where
  pub number : ℕ
  pub chain : ℕ
  pub field : Bytes
  pub written : ℕ
  pub sw : ℕ
  pub ins : ℕ
  pub p1 : ℕ
  pub p2 : ℕ

abbrev pub left : ℕ → ℕ → Bytes → ℕ → ℕ → ℕ → ℕ → ℕ → Left
left number chain field written sw ins p1 p2 =
    record { number = number; chain = chain; field = field; written = written; sw = sw; ins = ins; p1 = p1; p2 = p2 }

-- with the chain that a number stands for
abbrev pub reassembled : CommandChain → Given → Reassembly
reassembled c g = reassemble_command c g.apdu (length g.field)

abbrev pub leaves : Reassembly → Bytes → Left
leaves r field =
    let values = reassembly_values r.answer in
    left values.number (chain_number r.next) field values.len
    values.status values.header.ins values.header.p1 values.header.p2

abbrev pub leaves_with : CommandChain → Given → Left
leaves_with c g = leaves (reassembled c g) (reassembly_buffer c g.apdu g.field)

abbrev pub pivsm_reassemble_command : Given → Left
pivsm_reassemble_command g = leaves_with (chain_of g.chain) g
