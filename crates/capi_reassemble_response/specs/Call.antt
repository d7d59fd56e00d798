-- pivsm_reassemble_response of c/include/pivsm.h: one fragment's data, put behind what stands in the caller's buffer.
-- A chain is one number for a program in C, the length reassembled; 0 is the empty chain.
use Rattle.std.specs.Prelude.{ℕ, length}
use Rattle.octets.specs.Bytes.{Bytes}
use Rattle.chain_response.specs.Reassembly.{ResponseReassembly, chain, reassemble_response, reassembly_buffer}
use Rattle.capi_values.specs.ChainingValues.{response_reassembly_values}

-- what the call is given: the chain's number, the fragment with its status word, and the caller's buffer
pub record Given : Type 0 where
  pub chain : ℕ
  pub apdu : Bytes
  pub field : Bytes

abbrev pub given : ℕ → Bytes → Bytes → Given
given chain apdu field = record { chain = chain; apdu = apdu; field = field }

-- what it leaves: the result's number, and what stands in the caller's buffer and numbers
pub record Left : Type 0 where
  pub number : ℕ
  pub chain : ℕ
  pub field : Bytes
  pub written : ℕ
  pub sw : ℕ

abbrev pub left : ℕ → ℕ → Bytes → ℕ → ℕ → Left
left number chain field written sw =
    record { number = number; chain = chain; field = field; written = written; sw = sw }

abbrev pub reassembled : Given → ResponseReassembly
reassembled g = reassemble_response (chain g.chain) g.apdu (length g.field)

abbrev pub leaves : ResponseReassembly → Bytes → Left
leaves r field =
    let values = response_reassembly_values r.answer in
    left values.number r.next.len field values.len values.status

abbrev pub pivsm_reassemble_response : Given → Left
pivsm_reassemble_response g = leaves (reassembled g) (reassembly_buffer (chain g.chain) g.apdu g.field)
