-- What fragmenting and reassembling a command answer on either side of their lines, computed: every number of the two orders, given where later tests fail too;
-- the length needed, and the chain that is left.
-- Assumes nothing.
use mathlib.Core.Path.{◌≡◌, refl}
use mathlib.Core.Bool.{true, false}
use mathlib.Core.List.{List, [], ◌∷◌, ◌++◌}
use Prim.Native.Nat.{ℕ}
use lib.ListN.{length}
use Rattle.octets.specs.Bytes.{Bytes, zeros}
use Rattle.octets.specs.Write.{put}
use Rattle.std.specs.Prelude.{Result, Ok, Err}
use Rattle.apdu.specs.declared.Header.{Header}
use Rattle.apdu.specs.Apdu.{header}
use Rattle.refusal.specs.declared.Refusal.{Refusal}
use Rattle.refusal.specs.Refusal.{number, extra}
use Rattle.refusal.specs.declared.Refusal.TheVariants.{FragmentTooLong}
use Rattle.message_answer.specs.Answer.{Answer, refused, gave, require◌else◌⨾◌}
use Rattle.chain_command.specs.Apdu.{fragment_apdu, is_chained, is_last, well_formed}
use Rattle.chain_command.specs.Fragment.{fragment_size, fragment_count, fragment, fragment_command, fragment_answer}
use Rattle.chain_command.specs.Reassembly.{Reassembly, empty, chain, possible, continues, reassembly_checks, taken, concluded, reassemble_command, written, reassembly_buffer}
use Rattle.chain_command.specs.declared.CommandChain.{CommandChain}
use Rattle.chain_command.specs.declared.CommandPart.{CommandPart}
use Rattle.chain_command.specs.declared.CommandPart.TheVariants.{More, Whole}

-- ---- fragmenting: number and extra of a refusal, or 0 and the length of the APDU

fragmented : Answer Bytes → List ℕ
fragmented (refused q) = number q ∷ extra q ∷ []
fragmented (gave apdu) = 0 ∷ length apdu ∷ []

h : Header
h = header 0xCB 0x3F 0xFF

fragment_answers :
    fragmented (fragment_command h (zeros 2067) 256 99 0)
    ∷ fragmented (fragment_command h (zeros 2067) 255 99 0)
    ∷ fragmented (fragment_command h (zeros 2066) 255 9 0)
    ∷ fragmented (fragment_command h (zeros 2066) 255 8 31)
    ∷ fragmented (fragment_command h (zeros 2066) 255 8 32)
    ∷ fragmented (fragment_command h (zeros 2066) 255 7 259)
    ∷ fragmented (fragment_command h (zeros 2066) 255 7 260)
    ∷ fragmented (fragment_command h (zeros 2066) 0 8 32)
    ∷ fragmented (fragment_command h (zeros 2) 1 2 7)
    ∷ fragmented (fragment_command h (zeros 2) 1 1 7)
    ∷ fragmented (fragment_command h [] 0 0 300)
    ∷ []
    ≡ (15 ∷ 0 ∷ [])
    ∷ (4 ∷ 0 ∷ [])
    ∷ (14 ∷ 0 ∷ [])
    ∷ (6 ∷ 32 ∷ [])
    ∷ (0 ∷ 32 ∷ [])
    ∷ (6 ∷ 260 ∷ [])
    ∷ (0 ∷ 260 ∷ [])
    ∷ (0 ∷ 32 ∷ [])
    ∷ (14 ∷ 0 ∷ [])
    ∷ (0 ∷ 7 ∷ [])
    ∷ (14 ∷ 0 ∷ [])
    ∷ []
unfolding fragmented h fragment_command require◌else◌⨾◌ fragment_size fragment_count fragment fragment_apdu
fragment_answers = refl

-- the bytes of the fragments of three bytes by two, and what a function gives of them
fragment_bytes :
    fragment_command (header 0x20 0x00 0x80) (7 ∷ 8 ∷ 9 ∷ []) 2 0 7 ∷ fragment_command (header 0x20 0x00 0x80) (7 ∷ 8 ∷ 9 ∷ []) 2 1 7 ∷ []
    ≡ gave (0x1C ∷ 0x20 ∷ 0x00 ∷ 0x80 ∷ 2 ∷ 7 ∷ 8 ∷ []) ∷ gave (0x0C ∷ 0x20 ∷ 0x00 ∷ 0x80 ∷ 1 ∷ 9 ∷ 0x00 ∷ []) ∷ []
unfolding fragment_command require◌else◌⨾◌ fragment_size fragment_count fragment fragment_apdu
fragment_bytes = refl

fragment_given : fragment_answer (gave (1 ∷ 2 ∷ 3 ∷ [])) ∷ fragment_answer (refused FragmentTooLong) ∷ [] ≡ Ok 3 ∷ Err FragmentTooLong ∷ []
fragment_given = refl

-- ---- reassembling: the answer's numbers, and the chain

answer : Result CommandPart Refusal → List ℕ
answer (Ok (More n sw)) = 0 ∷ n ∷ sw.sw1 ∷ sw.sw2 ∷ []
answer (Ok (Whole n w)) = 0 ∷ n ∷ w.ins ∷ w.p1 ∷ w.p2 ∷ []
answer (Err q) = number q ∷ extra q ∷ []

answered : Reassembly → List ℕ
answered r = answer r.answer ++ r.next.len ∷ r.next.header.ins ∷ r.next.header.p1 ∷ r.next.header.p2 ∷ []

-- an APDU with one byte of data: more follow, and it is the last
more : ℕ → ℕ → ℕ → Bytes
more ins p1 p2 = fragment_apdu false (header ins p1 p2) (5 ∷ [])

last : ℕ → ℕ → ℕ → Bytes
last ins p1 p2 = fragment_apdu true (header ins p1 p2) (5 ∷ [])

-- a chain of n bytes, and one that no fragments lead to
part : ℕ → CommandChain
part n = chain (header 1 2 3) n

impossible : CommandChain
impossible = chain (header 0 0 1) 0

-- badly formed: no APDU; no data; a wrong CLA; a byte too few or too many; the last without '00', and with another byte; also where the chain is impossible
malformed_answers :
    answered (reassemble_command (part 4) [] 9)
    ∷ answered (reassemble_command (part 4) (0x1C ∷ 1 ∷ 2 ∷ 3 ∷ 0 ∷ []) 9)
    ∷ answered (reassemble_command (part 4) (0x0C ∷ 1 ∷ 2 ∷ 3 ∷ 0 ∷ 0 ∷ []) 9)
    ∷ answered (reassemble_command (part 4) (0x1D ∷ 1 ∷ 2 ∷ 3 ∷ 1 ∷ 5 ∷ []) 9)
    ∷ answered (reassemble_command (part 4) (0x1C ∷ 1 ∷ 2 ∷ 3 ∷ 2 ∷ 5 ∷ []) 9)
    ∷ answered (reassemble_command (part 4) (0x1C ∷ 1 ∷ 2 ∷ 3 ∷ 1 ∷ 5 ∷ 0 ∷ []) 9)
    ∷ answered (reassemble_command (part 4) (0x0C ∷ 1 ∷ 2 ∷ 3 ∷ 1 ∷ 5 ∷ []) 9)
    ∷ answered (reassemble_command (part 4) (0x0C ∷ 1 ∷ 2 ∷ 3 ∷ 1 ∷ 5 ∷ 1 ∷ []) 9)
    ∷ answered (reassemble_command impossible [] 0)
    ∷ []
    ≡ (7 ∷ 0 ∷ 0 ∷ 0 ∷ 0 ∷ 0 ∷ [])
    ∷ (7 ∷ 0 ∷ 0 ∷ 0 ∷ 0 ∷ 0 ∷ [])
    ∷ (7 ∷ 0 ∷ 0 ∷ 0 ∷ 0 ∷ 0 ∷ [])
    ∷ (7 ∷ 0 ∷ 0 ∷ 0 ∷ 0 ∷ 0 ∷ [])
    ∷ (7 ∷ 0 ∷ 0 ∷ 0 ∷ 0 ∷ 0 ∷ [])
    ∷ (7 ∷ 0 ∷ 0 ∷ 0 ∷ 0 ∷ 0 ∷ [])
    ∷ (7 ∷ 0 ∷ 0 ∷ 0 ∷ 0 ∷ 0 ∷ [])
    ∷ (7 ∷ 0 ∷ 0 ∷ 0 ∷ 0 ∷ 0 ∷ [])
    ∷ (7 ∷ 0 ∷ 0 ∷ 0 ∷ 0 ∷ 0 ∷ [])
    ∷ []
unfolding answered answer part impossible reassemble_command concluded reassembly_checks require◌else◌⨾◌ well_formed is_chained is_last
malformed_answers = refl

-- a changed INS, P1 or P2 at the limit; impossible chains; over the limit; without room; taken, chained and last
chain_answers :
    answered (reassemble_command (part 2066) (more 9 2 3) 0)
    ∷ answered (reassemble_command (part 2066) (more 1 9 3) 0)
    ∷ answered (reassemble_command (part 2066) (more 1 2 9) 0)
    ∷ answered (reassemble_command impossible (more 1 2 3) 0)
    ∷ answered (reassemble_command (part 2067) (more 1 2 3) 0)
    ∷ answered (reassemble_command (part 2066) (more 1 2 3) 0)
    ∷ answered (reassemble_command (part 2065) (more 1 2 3) 2065)
    ∷ answered (reassemble_command (part 2065) (more 1 2 3) 2066)
    ∷ answered (reassemble_command (part 2065) (last 1 2 3) 2066)
    ∷ answered (reassemble_command empty (more 9 8 7) 1)
    ∷ answered (reassemble_command empty (last 1 2 3) 1)
    ∷ answered (reassemble_command (part 1) (more 9 2 3) 9)
    ∷ answered (reassemble_command (part 1) (last 9 2 3) 9)
    ∷ answered (reassemble_command (part 1) (last 1 9 3) 9)
    ∷ answered (reassemble_command (part 1) (last 1 2 9) 9)
    ∷ answered (reassemble_command (part 2066) (last 1 2 3) 2066)
    ∷ answered (reassemble_command (part 2065) (last 1 2 3) 2065)
    ∷ []
    ≡ (14 ∷ 0 ∷ 0 ∷ 0 ∷ 0 ∷ 0 ∷ [])
    ∷ (14 ∷ 0 ∷ 0 ∷ 0 ∷ 0 ∷ 0 ∷ [])
    ∷ (14 ∷ 0 ∷ 0 ∷ 0 ∷ 0 ∷ 0 ∷ [])
    ∷ (14 ∷ 0 ∷ 0 ∷ 0 ∷ 0 ∷ 0 ∷ [])
    ∷ (14 ∷ 0 ∷ 0 ∷ 0 ∷ 0 ∷ 0 ∷ [])
    ∷ (4 ∷ 0 ∷ 0 ∷ 0 ∷ 0 ∷ 0 ∷ [])
    ∷ (6 ∷ 2066 ∷ 0 ∷ 0 ∷ 0 ∷ 0 ∷ [])
    ∷ (0 ∷ 2066 ∷ 0x90 ∷ 0x00 ∷ 2066 ∷ 1 ∷ 2 ∷ 3 ∷ [])
    ∷ (0 ∷ 2066 ∷ 1 ∷ 2 ∷ 3 ∷ 0 ∷ 0 ∷ 0 ∷ 0 ∷ [])
    ∷ (0 ∷ 1 ∷ 0x90 ∷ 0x00 ∷ 1 ∷ 9 ∷ 8 ∷ 7 ∷ [])
    ∷ (0 ∷ 1 ∷ 1 ∷ 2 ∷ 3 ∷ 0 ∷ 0 ∷ 0 ∷ 0 ∷ [])
    ∷ (14 ∷ 0 ∷ 0 ∷ 0 ∷ 0 ∷ 0 ∷ [])
    ∷ (14 ∷ 0 ∷ 0 ∷ 0 ∷ 0 ∷ 0 ∷ [])
    ∷ (14 ∷ 0 ∷ 0 ∷ 0 ∷ 0 ∷ 0 ∷ [])
    ∷ (14 ∷ 0 ∷ 0 ∷ 0 ∷ 0 ∷ 0 ∷ [])
    ∷ (4 ∷ 0 ∷ 0 ∷ 0 ∷ 0 ∷ 0 ∷ [])
    ∷ (6 ∷ 2066 ∷ 0 ∷ 0 ∷ 0 ∷ 0 ∷ [])
    ∷ []
unfolding answered answer part impossible more last reassemble_command concluded taken reassembly_checks require◌else◌⨾◌ possible continues well_formed is_chained is_last fragment_apdu
chain_answers = refl

-- ---- the caller's buffer: data behind what stands there; at a refusal it stays
buffers :
    reassembly_buffer (part 2) (more 1 2 3) (7 ∷ 8 ∷ 9 ∷ 6 ∷ [])
    ∷ reassembly_buffer empty (last 1 2 3) (7 ∷ 8 ∷ [])
    ∷ reassembly_buffer (part 2) (more 1 2 9) (7 ∷ 8 ∷ 9 ∷ 6 ∷ [])
    ∷ reassembly_buffer (part 2) (more 1 2 3) (7 ∷ 8 ∷ [])
    ∷ []
    ≡ (7 ∷ 8 ∷ 5 ∷ 6 ∷ []) ∷ (5 ∷ 8 ∷ []) ∷ (7 ∷ 8 ∷ 9 ∷ 6 ∷ []) ∷ (7 ∷ 8 ∷ []) ∷ []
unfolding part more last reassembly_buffer written put reassembly_checks require◌else◌⨾◌ possible continues well_formed is_chained is_last fragment_apdu
buffers = refl
