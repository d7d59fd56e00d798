-- Rules 7.7 to 7.9: a response field is put together again from its fragments (also called "joining"), and the GET RESPONSE that asks for the next.
use Rattle.std.specs.Prelude.{Ok, Err, Bool, ◌&&◌, ◌||◌, not, [], ◌∷◌, ℕ, ◌+◌, ◌-◌, eqb, leb, length, get_or, take}
use Rattle.octets.specs.Bytes.{Bytes}
use Rattle.std.specs.Prelude.{if◌then◌else◌}
use Rattle.octets.specs.Write.{put}
use Rattle.apdu.specs.declared.StatusWord.{StatusWord}
use Rattle.apdu.specs.Apdu.{status}
use Rattle.refusal.specs.declared.Answered.{Answered}
use Rattle.refusal.specs.declared.Refusal.TheVariants.{TooLong, BufferTooSmall, Malformed, BrokenChain}
use Rattle.message_answer.specs.Message.{max_response_field, more_sw1}
use Rattle.message_answer.specs.Answer.{Answer, refused, gave, require◌else◌⨾◌}
use Rattle.chain_response.specs.declared.ResponseChain.{ResponseChain}
use Rattle.chain_response.specs.declared.ResponsePart.{ResponsePart}
use Rattle.chain_response.specs.declared.ResponsePart.TheVariants.{More, Whole}

-- ---- a fragment, read: data, and the status word behind it

abbrev pub data_length : Bytes → ℕ
data_length bytes = length bytes - 2

abbrev pub data_of : Bytes → Bytes
data_of bytes = take (data_length bytes) bytes

abbrev pub status_of : Bytes → StatusWord
status_of bytes = status (get_or bytes (data_length bytes) 0) (get_or bytes (data_length bytes + 1) 0)

-- whether more fragments follow
unfoldable pub is_more : Bytes → Bool
is_more bytes = eqb (status_of bytes).sw1 more_sw1

-- "a piece without a whole status, with 61 and no data, or with over 256 bytes of data, is 7"
unfoldable pub well_formed : Bytes → Bool
well_formed bytes = leb 2 (length bytes) && (not (is_more bytes) || leb 1 (data_length bytes)) && leb (data_length bytes) 256

-- ---- reassembling

-- what reassembling answers, and the chain that it leaves
abbrev pub ResponseReassembly : Type 0
ResponseReassembly = Answered ResponsePart ResponseChain

abbrev pub chain : ℕ → ResponseChain
chain n = record { len = n }

abbrev pub empty : ResponseChain
empty = chain 0

-- fragments could have led to it
unfoldable pub possible : ResponseChain → Bool
possible c = leb c.len max_response_field

-- the bytes of the field with this fragment's
abbrev pub total : ResponseChain → Bytes → ℕ
total c bytes = c.len + data_length bytes

unfoldable pub reassembly_checks : ResponseChain → Bytes → ℕ → Answer (Unit {0})
reassembly_checks c bytes room =
    require well_formed bytes else Malformed ⨾
    require possible c else BrokenChain ⨾
    require leb (total c bytes) max_response_field else TooLong ⨾
    require leb (total c bytes) room else BufferTooSmall (total c bytes) ⨾
    gave tt

-- a fragment that is taken: "The host asks again with 00 C0 00 00 and that number"
unfoldable pub taken : StatusWord → ℕ → Bool → ResponseReassembly
taken sw n more =
    if more
    then record { answer = Ok (More n sw.sw2); next = chain n }
    else record { answer = Ok (Whole n sw); next = empty }

-- "any refusal drops what was joined"
unfoldable pub concluded : ResponseChain → Bytes → Answer (Unit {0}) → ResponseReassembly
concluded c bytes (refused r) = record { answer = Err r; next = empty }
concluded c bytes (gave passed) = taken (status_of bytes) (total c bytes) (is_more bytes)

unfoldable pub reassemble_response : ResponseChain → Bytes → ℕ → ResponseReassembly
reassemble_response c bytes room = concluded c bytes (reassembly_checks c bytes room)

-- the caller's buffer: the fragment's data behind what stands there; at a refusal it stays
unfoldable pub written : ResponseChain → Bytes → Bytes → Answer (Unit {0}) → Bytes
written c bytes held (refused r) = held
written c bytes held (gave passed) = put held c.len (data_of bytes)

unfoldable pub reassembly_buffer : ResponseChain → Bytes → Bytes → Bytes
reassembly_buffer c bytes held = written c bytes held (reassembly_checks c bytes (length held))

-- ---- GET RESPONSE

unfoldable pub get_response : ℕ → Bytes
get_response le = 0x00 ∷ 0xC0 ∷ 0x00 ∷ 0x00 ∷ le ∷ []
