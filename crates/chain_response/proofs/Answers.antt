-- What fragmenting and reassembling a response answer on either side of their lines, computed: every number of the two orders, given where later tests fail too;
-- the length needed, what is announced, and the chain that is left.
-- Assumes nothing.
use mathlib.Core.Path.{◌≡◌, refl}
use mathlib.Core.List.{List, [], ◌∷◌, ◌++◌}
use Prim.Native.Nat.{ℕ, ◌-◌}
use lib.ListN.{length, drop}
use Rattle.octets.specs.Bytes.{Bytes, zeros}
use Rattle.octets.specs.Write.{put}
use Rattle.std.specs.Prelude.{Result, Ok, Err}
use Rattle.apdu.specs.declared.StatusWord.{StatusWord}
use Rattle.apdu.specs.Apdu.{status}
use Rattle.refusal.specs.declared.Refusal.{Refusal}
use Rattle.refusal.specs.Refusal.{number, extra}
use Rattle.refusal.specs.declared.Refusal.TheVariants.{NotPermitted}
use Rattle.message_permission.specs.Permission.{status_permitted}
use Rattle.message_answer.specs.Answer.{Answer, refused, gave, require◌else◌⨾◌}
use Rattle.chain_response.specs.Fragment.{asked, announced, fragment_data, fragment_status, next, fragment, fragment_response, fragment_answer}
use Rattle.chain_response.specs.Reassembly.{ResponseReassembly, is_more, well_formed, chain, empty, possible, reassembly_checks, taken, concluded, reassemble_response, written, reassembly_buffer, get_response}
use Rattle.chain_response.specs.declared.ResponsePart.{ResponsePart}
use Rattle.chain_response.specs.declared.ResponsePart.TheVariants.{More, Whole}

-- ---- fragmenting: number and extra of a refusal, or 0, the fragment's length and its status word

fragmented : Answer Bytes → List ℕ
fragmented (refused q) = number q ∷ extra q ∷ []
fragmented (gave bytes) = 0 ∷ length bytes ∷ drop (length bytes - 2) bytes

ok : StatusWord
ok = status 0x90 0x00

fragment_answers :
    fragmented (fragment_response (status 0x61 0x00) (zeros 16404) 16404 0x00 0)
    ∷ fragmented (fragment_response ok (zeros 16404) 16404 0x00 0)
    ∷ fragmented (fragment_response ok (zeros 16403) 16403 0x00 0)
    ∷ fragmented (fragment_response ok [] 0 0x00 300)
    ∷ fragmented (fragment_response ok (zeros 16403) 0 0x00 257)
    ∷ fragmented (fragment_response ok (zeros 16403) 0 0x00 258)
    ∷ fragmented (fragment_response ok (zeros 513) 0 0x00 258)
    ∷ fragmented (fragment_response ok (zeros 512) 0 0x00 258)
    ∷ fragmented (fragment_response ok (zeros 511) 0 0x00 258)
    ∷ fragmented (fragment_response ok (zeros 257) 0 0x00 258)
    ∷ fragmented (fragment_response ok (zeros 256) 0 0x00 258)
    ∷ fragmented (fragment_response ok (zeros 256) 0 0xFF 258)
    ∷ fragmented (fragment_response ok (zeros 9) 8 0x05 3)
    ∷ fragmented (fragment_response (status 0x62 0x61) (zeros 9) 0 0x09 11)
    ∷ fragmented (fragment_response ok (zeros 9) 0 0x05 7)
    ∷ fragmented (fragment_response (status 0x61 0x00) (zeros 9) 0 0x05 7)
    ∷ []
    ≡ (3 ∷ 0 ∷ [])
    ∷ (4 ∷ 0 ∷ [])
    ∷ (14 ∷ 0 ∷ [])
    ∷ (14 ∷ 0 ∷ [])
    ∷ (6 ∷ 258 ∷ [])
    ∷ (0 ∷ 258 ∷ 0x61 ∷ 0x00 ∷ [])
    ∷ (0 ∷ 258 ∷ 0x61 ∷ 0x00 ∷ [])
    ∷ (0 ∷ 258 ∷ 0x61 ∷ 0x00 ∷ [])
    ∷ (0 ∷ 258 ∷ 0x61 ∷ 0xFF ∷ [])
    ∷ (0 ∷ 258 ∷ 0x61 ∷ 0x01 ∷ [])
    ∷ (0 ∷ 258 ∷ 0x90 ∷ 0x00 ∷ [])
    ∷ (0 ∷ 257 ∷ 0x61 ∷ 0x01 ∷ [])
    ∷ (0 ∷ 3 ∷ 0x90 ∷ 0x00 ∷ [])
    ∷ (0 ∷ 11 ∷ 0x62 ∷ 0x61 ∷ [])
    ∷ (0 ∷ 7 ∷ 0x61 ∷ 0x04 ∷ [])
    ∷ (3 ∷ 0 ∷ [])
    ∷ []
unfolding fragmented ok fragment_response require◌else◌⨾◌ status_permitted asked announced fragment_data fragment_status next fragment
fragment_answers = refl

-- bytes, and the index of the next fragment, of five bytes by two
fragment_bytes :
    fragment_response ok (1 ∷ 2 ∷ 3 ∷ 4 ∷ 5 ∷ []) 0 0x02 9
    ∷ fragment_response ok (1 ∷ 2 ∷ 3 ∷ 4 ∷ 5 ∷ []) 2 0x02 9
    ∷ fragment_response ok (1 ∷ 2 ∷ 3 ∷ 4 ∷ 5 ∷ []) 4 0x02 9
    ∷ []
    ≡ gave (1 ∷ 2 ∷ 0x61 ∷ 3 ∷ []) ∷ gave (3 ∷ 4 ∷ 0x61 ∷ 1 ∷ []) ∷ gave (5 ∷ 0x90 ∷ 0x00 ∷ []) ∷ []
unfolding ok fragment_response require◌else◌⨾◌ status_permitted asked announced fragment_data fragment_status next fragment
fragment_bytes = refl

next_indices : next (1 ∷ 2 ∷ 3 ∷ 4 ∷ 5 ∷ []) 2 0x02 ∷ next (1 ∷ 2 ∷ 3 ∷ 4 ∷ 5 ∷ []) 4 0x02 ∷ [] ≡ 4 ∷ 5 ∷ []
unfolding next fragment_data asked
next_indices = refl

fragment_given : fragment_answer 4 (gave (1 ∷ 2 ∷ 3 ∷ [])) ∷ fragment_answer 4 (refused NotPermitted) ∷ [] ≡ Ok (record { len = 3; next = 4 }) ∷ Err NotPermitted ∷ []
fragment_given = refl

-- ---- reassembling: the answer's numbers, and the chain

answer : Result ResponsePart Refusal → List ℕ
answer (Ok (More n le)) = 0 ∷ n ∷ le ∷ []
answer (Ok (Whole n sw)) = 0 ∷ n ∷ sw.sw1 ∷ sw.sw2 ∷ []
answer (Err q) = number q ∷ extra q ∷ []

answered : ResponseReassembly → List ℕ
answered r = answer r.answer ++ r.next.len ∷ []

-- badly formed, also where the chain is impossible: no whole status word; 61 without data; over 256 bytes of data. Then an impossible chain, the limit, the room;
-- taken, with more to come and whole, without data too
reassembly_answers :
    answered (reassemble_response (chain 16404) [] 0)
    ∷ answered (reassemble_response (chain 16404) (0x90 ∷ []) 0)
    ∷ answered (reassemble_response (chain 16404) (0x61 ∷ 0x05 ∷ []) 0)
    ∷ answered (reassemble_response (chain 16404) (zeros 257 ++ 0x90 ∷ 0x00 ∷ []) 0)
    ∷ answered (reassemble_response (chain 16404) (5 ∷ 0x61 ∷ 0x05 ∷ []) 0)
    ∷ answered (reassemble_response (chain 16403) (5 ∷ 0x61 ∷ 0x05 ∷ []) 0)
    ∷ answered (reassemble_response (chain 16402) (5 ∷ 0x61 ∷ 0x05 ∷ []) 16402)
    ∷ answered (reassemble_response (chain 16402) (5 ∷ 0x61 ∷ 0x05 ∷ []) 16403)
    ∷ answered (reassemble_response (chain 16402) (5 ∷ 0x90 ∷ 0x05 ∷ []) 16403)
    ∷ answered (reassemble_response (chain 16403) (0x6A ∷ 0x61 ∷ []) 16403)
    ∷ answered (reassemble_response empty (0x6A ∷ 0x82 ∷ []) 0)
    ∷ answered (reassemble_response empty (zeros 256 ++ 0x61 ∷ 0x00 ∷ []) 256)
    ∷ answered (reassemble_response (chain 16403) (5 ∷ 0x90 ∷ 0x00 ∷ []) 16404)
    ∷ answered (reassemble_response (chain 16402) (5 ∷ 0x90 ∷ 0x00 ∷ []) 16402)
    ∷ answered (reassemble_response empty (0x61 ∷ 0x06 ∷ []) 256)
    ∷ []
    ≡ (7 ∷ 0 ∷ 0 ∷ [])
    ∷ (7 ∷ 0 ∷ 0 ∷ [])
    ∷ (7 ∷ 0 ∷ 0 ∷ [])
    ∷ (7 ∷ 0 ∷ 0 ∷ [])
    ∷ (14 ∷ 0 ∷ 0 ∷ [])
    ∷ (4 ∷ 0 ∷ 0 ∷ [])
    ∷ (6 ∷ 16403 ∷ 0 ∷ [])
    ∷ (0 ∷ 16403 ∷ 0x05 ∷ 16403 ∷ [])
    ∷ (0 ∷ 16403 ∷ 0x90 ∷ 0x05 ∷ 0 ∷ [])
    ∷ (0 ∷ 16403 ∷ 0x6A ∷ 0x61 ∷ 0 ∷ [])
    ∷ (0 ∷ 0 ∷ 0x6A ∷ 0x82 ∷ 0 ∷ [])
    ∷ (0 ∷ 256 ∷ 0x00 ∷ 256 ∷ [])
    ∷ (4 ∷ 0 ∷ 0 ∷ [])
    ∷ (6 ∷ 16403 ∷ 0 ∷ [])
    ∷ (7 ∷ 0 ∷ 0 ∷ [])
    ∷ []
unfolding answered answer reassemble_response concluded taken reassembly_checks require◌else◌⨾◌ possible well_formed is_more
reassembly_answers = refl

-- ---- the caller's buffer: data behind what stands there; at a refusal it stays
buffers :
    reassembly_buffer (chain 2) (5 ∷ 0x61 ∷ 0x01 ∷ []) (7 ∷ 8 ∷ 9 ∷ 6 ∷ [])
    ∷ reassembly_buffer empty (5 ∷ 0x90 ∷ 0x00 ∷ []) (7 ∷ 8 ∷ [])
    ∷ reassembly_buffer (chain 2) (0x61 ∷ 0x01 ∷ []) (7 ∷ 8 ∷ 9 ∷ 6 ∷ [])
    ∷ reassembly_buffer (chain 2) (5 ∷ 0x61 ∷ 0x01 ∷ []) (7 ∷ 8 ∷ [])
    ∷ []
    ≡ (7 ∷ 8 ∷ 5 ∷ 6 ∷ []) ∷ (5 ∷ 8 ∷ []) ∷ (7 ∷ 8 ∷ 9 ∷ 6 ∷ []) ∷ (7 ∷ 8 ∷ []) ∷ []
unfolding reassembly_buffer written put reassembly_checks require◌else◌⨾◌ possible well_formed is_more
buffers = refl

-- ---- GET RESPONSE

get_response_lem : get_response 0xA3 ∷ get_response 0x00 ∷ [] ≡ (0x00 ∷ 0xC0 ∷ 0x00 ∷ 0x00 ∷ 0xA3 ∷ []) ∷ (0x00 ∷ 0xC0 ∷ 0x00 ∷ 0x00 ∷ 0x00 ∷ []) ∷ []
unfolding get_response
get_response_lem = refl
