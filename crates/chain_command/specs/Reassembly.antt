-- Rules 7.3 to 7.5: a command field is put together again from its fragments (reassembling is also called "joining").
use Rattle.std.specs.Prelude.{Ok, Err, Bool, ◌&&◌, ◌||◌, ℕ, ◌+◌, eqb, leb, length}
use Rattle.octets.specs.Bytes.{Bytes}
use Rattle.std.specs.Prelude.{if◌then◌else◌}
use Rattle.octets.specs.Write.{put}
use Rattle.apdu.specs.declared.Header.{Header}
use Rattle.apdu.specs.Apdu.{header, status}
use Rattle.refusal.specs.declared.Answered.{Answered}
use Rattle.refusal.specs.declared.Refusal.TheVariants.{TooLong, BufferTooSmall, Malformed, BrokenChain}
use Rattle.message_answer.specs.Message.{max_command_field}
use Rattle.message_answer.specs.Answer.{Answer, refused, gave, require◌else◌⨾◌}
use Rattle.chain_command.specs.Apdu.{header_of, lc, data_of, is_last, well_formed}
use Rattle.chain_command.specs.declared.CommandChain.{CommandChain}
use Rattle.chain_command.specs.declared.CommandPart.{CommandPart}
use Rattle.chain_command.specs.declared.CommandPart.TheVariants.{More, Whole}

-- what reassembling answers, and the chain that it leaves
abbrev pub Reassembly : Type 0
Reassembly = Answered CommandPart CommandChain

abbrev pub chain : Header → ℕ → CommandChain
chain h n = record { len = n; header = h }

abbrev pub empty : CommandChain
empty = chain (header 0 0 0) 0

abbrev pub same_header : Header → Header → Bool
same_header a b = eqb a.ins b.ins && eqb a.p1 b.p1 && eqb a.p2 b.p2

-- fragments could have led to it
unfoldable pub possible : CommandChain → Bool
possible c = if eqb c.len 0 then same_header c.header empty.header else leb c.len max_command_field

-- the first fragment of a chain, or one with its INS, P1 and P2
unfoldable pub continues : CommandChain → Header → Bool
continues c h = eqb c.len 0 || same_header h c.header

-- the bytes of the field with this fragment's
abbrev pub total : CommandChain → Bytes → ℕ
total c apdu = c.len + lc apdu

unfoldable pub reassembly_checks : CommandChain → Bytes → ℕ → Answer (Unit {0})
reassembly_checks c apdu room =
    require well_formed apdu else Malformed ⨾
    require possible c && continues c (header_of apdu) else BrokenChain ⨾
    require leb (total c apdu) max_command_field else TooLong ⨾
    require leb (total c apdu) room else BufferTooSmall (total c apdu) ⨾
    gave tt

-- a fragment that is taken: 90 00 to all but the last
unfoldable pub taken : Header → ℕ → Bool → Reassembly
taken h n last =
    if last
    then record { answer = Ok (Whole n h); next = empty }
    else record { answer = Ok (More n (status 0x90 0x00)); next = chain h n }

-- "any refusal drops what was joined"
unfoldable pub concluded : CommandChain → Bytes → Answer (Unit {0}) → Reassembly
concluded c apdu (refused r) = record { answer = Err r; next = empty }
concluded c apdu (gave passed) = taken (header_of apdu) (total c apdu) (is_last apdu)

unfoldable pub reassemble_command : CommandChain → Bytes → ℕ → Reassembly
reassemble_command c apdu room = concluded c apdu (reassembly_checks c apdu room)

-- the caller's buffer: the fragment's data behind what stands there; at a refusal it stays
unfoldable pub written : CommandChain → Bytes → Bytes → Answer (Unit {0}) → Bytes
written c apdu held (refused r) = held
written c apdu held (gave passed) = put held c.len (data_of apdu)

unfoldable pub reassembly_buffer : CommandChain → Bytes → Bytes → Bytes
reassembly_buffer c apdu held = written c apdu held (reassembly_checks c apdu (length held))
