-- Runs that the checker computes, with ciphers small enough to be computed: an honest run of two exchanges agrees and is not
-- excepted; with a MAC that is always zeros, one run breaks each part of the claim.
-- Assumes nothing.
use mathlib.Core.Path.{◌≡◌, refl, sym, ap, ◌∙◌}
use mathlib.Core.Logic.{inl, inr}
use mathlib.Core.Bool.{Bool, true, false, ◌&&◌, ◌||◌, not}
use mathlib.Core.List.Memᴰ
use mathlib.Core.List.{List, [], ◌∷◌, ◌++◌, Memᴰ}
use Prim.Native.Nat.{ℕ, zero, suc, ◌<◌}
use native.Mathlib.Omega.{arith}
use Rattle.octets.proofs.ByteStrings.{bytes_nil, bytes_cons}
use Rattle.message_protocol.proofs.Runs.{agreement}
use borrow.Author.Tests.{ltb-true}
use lib.Dec.{ltb}
use lib.ListN.{length, replicate, get_or, take}
use Rattle.octets.proofs.Tests.{both}
use Rattle.octets.specs.Bytes.{Bytes, IsBytes, zeros}
use Rattle.std.specs.Prelude.{if◌then◌else◌}
use Rattle.message_mac.specs.Same.{same}
use Rattle.message_mac.proofs.SameBytes.{same_eq, same_self}
use Rattle.field_padding.specs.Padding.{padding, pad, padded_length, marked, mark_before, unpad}
use Rattle.field_ber_length.specs.Length.{length_field, read_length, is_shortest}
use Rattle.field_expected.specs.Wanted.{rank, allowed}
use Rattle.field_object.specs.Values.{right_size, right_second, right_value}
use Rattle.field_object.specs.Object.{require◌else◌⨾◌ as need◌else◌⨾◌, with_length, read_object}
use Rattle.field_read.specs.Field.{noted as notedObject, ended, on_object, walk, read_field}
use Rattle.field_write.specs.Objects.{object, encrypted_data, le_object, status_word, mac_object, command_objects, response_objects, command_field, response_field}
use Rattle.field_size.specs.Lengths.{ciphertext_length, encrypted_data_length, command_length, response_length}
use Rattle.message_mac.specs.MacInput.{encoded_header, command_mac_input, response_mac_input}
use Rattle.apdu.specs.Apdu.{header, status}
use Rattle.apdu.specs.declared.Header.{Header}
use Rattle.session_rules.specs.Valid.{keeps_phase, valid, counts_as_open}
use Rattle.session_rules.specs.ZeroBytes.{all_zero, keys_end, keys_zero, mcvs_zero}
use Rattle.session_turn.specs.Turn.{is_turn}
use Rattle.session_suite.specs.StoredKeys.{Keys, keys_fit}
use Rattle.session.specs.Opening.{open_suite, opening}
use Rattle.session.specs.declared.Side.TheVariants.{Host, Card}
use Rattle.message_ciphers.specs.Ciphers.{Ciphers}
use Rattle.message_ciphers.specs.Aes.{data_in}
use Rattle.message_ciphers.specs.Toy.{toy_hash, toy_mac, xor_all, mask, toy_encrypt, toy_decrypt, toy, flat}
use Rattle.message_ciphers.proofs.ToyLaws.{toy_laws}
use Rattle.message_answer.specs.Message.{command_header, header_of, CommandHeader, StatusWord, Command, Response}
use Rattle.message_permission.specs.Permission.{ins_permitted, le_need, data_need, command_permitted, status_permitted, command_wanted, response_wanted}
use Rattle.octets_numbers.specs.BigEndian.{big_endian}
use Rattle.message_counter.specs.Counter.{command_counter, response_counter}
use Rattle.message_answer.specs.Answer.{Answer, refused, gave, require◌else◌⨾◌, ◌and_then◌, concluded}
use Rattle.message_answer.specs.Outcome.{after_refusal}
use Rattle.message_verify.specs.Reading.{objects_of, text_of}
use Rattle.message_verify.specs.VerifiedText.{verified_text}
use Rattle.message_exchange.specs.Exchange.{Entry, messages, wrap_entry, field_of as entryField, fields_from}
use Rattle.message_protocol.specs.Command.{command_input, wrap_command_checks, unwrap_command_checks, command_mac, command_ciphertext, command_wrapped, command_accepted, host_wraps, open_command, card_unwraps}
use Rattle.message_protocol.specs.Response.{wrap_response_checks, unwrap_response_checks, response_mac, response_ciphertext, response_wrapped, response_accepted, card_wraps, open_response, host_unwraps}
use Rattle.message_protocol.specs.Transcript.{Call, wrap_command, unwrap_command, wrap_response, unwrap_response, close, Transcript, chaining_values, chaining, accepted_command, accepted_response, noted, entered, State, moved, does, step, run, start, commands, responses}
use Rattle.message_protocol.specs.Agreement.{Agrees, MacBreak, Excepted, AllBytes}

-- ---- messages

abbrev command : Header → Bool → Bytes → Command
command h le d = record { header = command_header h le; payload = d }

abbrev response : StatusWord → Bytes → Response
response sw d = record { header = sw; payload = d }

keys : Keys
keys = record { enc = replicate 16 1; mac = replicate 16 2; rmac = replicate 16 3 }

verify : Command
verify = command (header 0x20 0x00 0x98) false (0x36 ∷ 0x35 ∷ 0x31 ∷ [])

get_data : Command
get_data = command (header 0xCB 0x3F 0xFF) true (0x5C ∷ 0x03 ∷ [])

okay : Response
okay = response (status 0x90 0x00) []

certificate : Response
certificate = response (status 0x90 0x00) (replicate 130 7)

-- ---- runs

field_of : Answer Bytes → Bytes
field_of (refused r) = []
field_of (gave field) = field

begin : State
begin = start (opening Host 2 keys).next (opening Card 2 keys).next

-- the calls of one honest exchange from this state
exchange : Ciphers → State → Command → Response → List Call
exchange C st m r =
    let c1 = wrap_command Host m 3000 in
    let c2 = unwrap_command Card (header_of m.header) (field_of (host_wraps C st.host m 3000).answer) 3000 in
    let st2 = run C keys st (c1 ∷ c2 ∷ []) in
    c1 ∷ c2 ∷ wrap_response Card r 20000 ∷ unwrap_response Host r.header (field_of (card_wraps C st2.card r 20000).answer) 20000 ∷ []

two : Ciphers → List Call
two C = let first = exchange C begin verify okay in first ++ exchange C (run C keys begin first) get_data certificate

-- with a response short enough to be written out
one_byte : Response
one_byte = response (status 0x90 0x00) (0x07 ∷ [])

short : Ciphers → List Call
short C = let first = exchange C begin verify one_byte in first ++ exchange C (run C keys begin first) get_data one_byte

counts : Transcript → List ℕ
counts t =
    length t.commands.wrapped ∷ length t.commands.accepted ∷ length t.responses.wrapped ∷ length t.responses.accepted ∷ []

-- ---- when chaining values are distinct

among : Bytes → List Bytes → Bool
among x [] = false
among x (y ∷ l) = same x y || among x l

distinct : List Bytes → Bool
distinct [] = true
distinct (x ∷ l) = not (among x l) && distinct l

among_at : (x : Bytes) (l : List Bytes) (j : ℕ) → j < length l → x ≡ get_or l j [] → among x l ≡ true
unfolding among
among_at x [] j h e = let z : ⊥ = omega arith in absurd z
among_at x (y ∷ l) zero h e = rw (ap (same x) (sym e) ∙ same_self x)
among_at x (y ∷ l) (suc j) h e = rw (among_at x l j (omega arith) e) (or_true (same x y))
  where
    or_true : (b : Bool) → (b || true) ≡ true
    or_true true = refl
    or_true false = refl

apart : (l : List Bytes) → distinct l ≡ true → (i j : ℕ) → i < j → j < length l → get_or l i [] ≡ get_or l j [] → ⊥
unfolding distinct
apart [] d i j h l e = omega arith
apart (x ∷ l) d i zero h m e = omega arith
apart (x ∷ l) d zero (suc j) h m e =
    let a : not (among x l) ≡ true = (both (not (among x l)) (distinct l) d).0 in
    let b : not (among x l) ≡ false = ap not (among_at x l j (omega arith) e) in
    let z : ◌≡◌ {A = ℕ} 0 1 = cc in omega arith
apart (x ∷ l) d (suc i) (suc j) h m e = apart l (both (not (among x l)) (distinct l) d).1 i j (omega arith) (omega arith) e

member_of : (x : Bytes) (l : List Bytes) → among x l ≡ true → Memᴰ x l
unfolding among
member_of x [] e = let z : ◌≡◌ {A = ℕ} 0 1 = cc in let o : ⊥ = omega arith in absurd o
member_of x (y ∷ l) e = go (same x y) refl e (member_of x l)
  where
    go : (t : Bool) → same x y ≡ t → (t || among x l) ≡ true → (among x l ≡ true → Memᴰ x l) → Memᴰ x (y ∷ l)
    go true f e rest = Memᴰ.head (same_eq x y f)
    go false f e rest = Memᴰ.tail (rest e)

-- an input that was MACed, under distinct chaining values, breaks nothing
sound : (C : Ciphers) (key : Bytes) (sent : List Bytes) (input mac : Bytes) → MacBreak C key sent input mac
    → among input sent ≡ true → distinct (chaining_values C key sent) ≡ true → ⊥
sound C key sent input mac b m d =
    elim b.cause [ inl new ↦ new (member_of input sent m) | inr c ↦ apart (chaining_values C key sent) d c.i c.j c.i<j c.within c.equal ]

-- ---- runs with a MAC that is always zeros, one for each part of the claim

forged : Command → Bytes
forged m = command_field (toy_encrypt keys.enc (command_counter 1) m.payload) m.header.le (zeros 8)

received_as : Command → Command → Call
received_as m n = unwrap_command Card (header_of n.header) (forged m) 3000

-- VERIFY with another INS, P1 and P2, and with other data
other_ins : Command
other_ins = command (header 0x24 0x00 0x98) false verify.payload

other_p1 : Command
other_p1 = command (header 0x20 0xFF 0x98) false verify.payload

other_header : Command
other_header = command (header 0x20 0x00 0x80) false (0x36 ∷ 0x35 ∷ 0x31 ∷ [])

other_data : Command
other_data = command (header 0x20 0x00 0x98) false (0x36 ∷ 0x35 ∷ 0x32 ∷ [])

-- GENERAL AUTHENTICATE without Le, and with it
authenticate : Command
authenticate = command (header 0x87 0x07 0x9E) false (0x7C ∷ [])

with_le : Command
with_le = command (header 0x87 0x07 0x9E) true (0x7C ∷ [])

more_commands : List Call
more_commands = received_as verify verify ∷ []

more_responses : List Call
more_responses = wrap_command Host verify 3000 ∷ unwrap_response Host okay.header (response_field [] 0x90 0x00 (zeros 8)) 3000 ∷ []

ins_changed : List Call
ins_changed = wrap_command Host verify 3000 ∷ received_as verify other_ins ∷ []

p1_changed : List Call
p1_changed = wrap_command Host verify 3000 ∷ received_as verify other_p1 ∷ []

header_changed : List Call
header_changed = wrap_command Host verify 3000 ∷ received_as verify other_header ∷ []

data_changed : List Call
data_changed = wrap_command Host verify 3000 ∷ received_as other_data verify ∷ []

le_changed : List Call
le_changed = wrap_command Host authenticate 3000 ∷ received_as with_le authenticate ∷ []

status_changed : List Call
status_changed =
    wrap_command Host verify 3000 ∷ received_as verify verify ∷ wrap_response Card okay 3000
    ∷ unwrap_response Host (status 0x6A 0x82) (response_field [] 0x6A 0x82 (zeros 8)) 3000 ∷ []

sw2_changed : List Call
sw2_changed =
    wrap_command Host verify 3000 ∷ received_as verify verify ∷ wrap_response Card okay 3000
    ∷ unwrap_response Host (status 0x90 0x0C) (response_field [] 0x90 0x0C (zeros 8)) 3000 ∷ []

-- one command wrapped, and no more
one_wrapped : List Call
one_wrapped = wrap_command Host verify 3000 ∷ []

-- with the keys known, a command that was never wrapped: its MAC is right
never_wrapped : List Call
never_wrapped =
    let c = toy_encrypt keys.enc (command_counter 1) verify.payload in
    let full = toy_mac keys.mac (command_input (zeros 16) verify.header (command_objects c false)) in
    unwrap_command Card (header 0x20 0x00 0x98) (command_field c false (take 8 full)) 3000 ∷ []

-- a VERIFY without data, accepted twice: under the constant MAC the second input is the first
check : Command
check = command (header 0x20 0x00 0x98) false []

repeated : List Call
repeated = wrap_command Host check 3000 ∷ received_as check check ∷ wrap_response Card okay 3000 ∷ received_as check check ∷ []

-- a response whose MAC was changed
mac_changed : List Call
mac_changed =
    wrap_command Host check 3000
    ∷ unwrap_command Card (header 0x20 0x00 0x98) (field_of (host_wraps toy begin.host check 3000).answer) 3000
    ∷ wrap_response Card okay 3000
    ∷ unwrap_response Host okay.header (response_field [] 0x90 0x00 (zeros 8)) 3000 ∷ []

-- a VERIFY without data, its response, the same response again, and an exchange
response_again : List Call
response_again =
    let first = exchange toy begin check okay in
    let st = run toy keys begin (take 2 first) in
    let again = unwrap_response Host okay.header (field_of (card_wraps toy st.card okay 20000).answer) 20000 ∷ [] in
    first ++ again ++ exchange toy (run toy keys begin (first ++ again)) verify okay

-- the same, then calls at the wrong end, both closings, and a call after them
mixed : List Call
mixed =
    response_again ++ wrap_command Card verify 3000 ∷ unwrap_response Card okay.header [] 0 ∷ close Host ∷ close Card ∷ wrap_command Host verify 3000 ∷ []

all_bytes : Bytes → Bool
all_bytes [] = true
all_bytes (b ∷ bs) = ltb b 256 && all_bytes bs

are_bytes : (xs : Bytes) → all_bytes xs ≡ true → IsBytes xs
unfolding all_bytes
are_bytes [] e = bytes_nil
are_bytes (b ∷ bs) e = let h = both (ltb b 256) (all_bytes bs) e in bytes_cons b bs (ltb-true b 256 h.0) (are_bytes bs h.1)

one_byte_read : Response
one_byte_read = response okay.header (0x08 ∷ [])

-- a byte for another, with the constant MAC
response_data_changed : List Call
response_data_changed =
    wrap_command Host check 3000 ∷ received_as check check ∷ wrap_response Card one_byte_read 3000
    ∷ unwrap_response Host okay.header (response_field (toy_encrypt keys.enc (response_counter 1) (0x07 ∷ [])) 0x90 0x00 (zeros 8)) 3000 ∷ []

-- transcripts that no run leads to
entry : Entry CommandHeader
entry = record { message = check; input = [] }

reply : Entry StatusWord
reply = record { message = okay; input = [] }

two_outstanding : Transcript
two_outstanding =
    record {
      commands =
          record { wrapped = entry ∷ entry ∷ []; fields = fields_from (commands toy keys) 1 (entry ∷ entry ∷ []); accepted = [] };
      responses = record { wrapped = []; fields = []; accepted = [] };
    }

answer_to_nothing : Transcript
answer_to_nothing =
    record {
      commands = record { wrapped = entry ∷ []; fields = fields_from (commands toy keys) 1 (entry ∷ []); accepted = [] };
      responses = record { wrapped = reply ∷ []; fields = fields_from (responses toy keys) 1 (reply ∷ []); accepted = [] };
    }

-- one wrapped, and no bytes handed out for it
field_lost : Transcript
field_lost =
    record {
      commands = record { wrapped = entry ∷ []; fields = [] ∷ []; accepted = [] };
      responses = record { wrapped = []; fields = []; accepted = [] };
    }

response_field_lost : Transcript
response_field_lost =
    record {
      commands = record { wrapped = entry ∷ []; fields = []; accepted = entry ∷ [] };
      responses = record { wrapped = reply ∷ []; fields = [] ∷ []; accepted = [] };
    }

-- the first byte of the first response's data
data_of : List Response → ℕ
data_of [] = 0
data_of (m ∷ ms) = get_or m.payload 0 0

abbrev Broken : List Call → Type 0
Broken calls = Agrees flat keys (run flat keys begin calls).transcript → ⊥

-- of the first message: INS, P1, P2, the third byte of the data, whether Le is there; SW1 and SW2
ins_of : List Command → ℕ
ins_of [] = 0
ins_of (m ∷ ms) = m.header.ins

p1_of : List Command → ℕ
p1_of [] = 0
p1_of (m ∷ ms) = m.header.p1

p2_of : List Command → ℕ
p2_of [] = 0
p2_of (m ∷ ms) = m.header.p2

third_of : List Command → ℕ
third_of [] = 0
third_of (m ∷ ms) = get_or m.payload 2 0

le_of : List Command → ℕ
le_of [] = 0
le_of (m ∷ ms) = if m.header.le then 1 else 0

sw2_of : List Response → ℕ
sw2_of [] = 0
sw2_of (m ∷ ms) = m.header.sw2

sw1_of : List Response → ℕ
sw1_of [] = 0
sw1_of (m ∷ ms) = m.header.sw1

-- ---- computed

record Computed : Type 0 where
  counted : counts (run toy keys begin (two toy)).transcript ≡ 2 ∷ 2 ∷ 2 ∷ 2 ∷ []
  commands_given : messages (run toy keys begin (two toy)).transcript.commands.accepted ≡ verify ∷ get_data ∷ []
  responses_given : messages (run toy keys begin (two toy)).transcript.responses.accepted ≡ okay ∷ certificate ∷ []
  -- two exchanges, every byte that is handed out: the keys, the counters, the chaining values and the order of the MAC input
  command_fields : (run toy keys begin (short toy)).transcript.commands.fields
      ≡ (0x87 ∷ 0x11 ∷ 0x01 ∷ 0xB5 ∷ 0xB6 ∷ 0xB2 ∷ 0x03 ∷ 0x83 ∷ 0x83 ∷ 0x83 ∷ 0x83 ∷ 0x83 ∷ 0x83 ∷ 0x83 ∷ 0x83 ∷ 0x83 ∷ 0x83 ∷ 0x83 ∷ 0x83 ∷ 0x8E
      ∷ 0x08 ∷ 0x96 ∷ 0x9F ∷ 0xCF ∷ 0x4E ∷ 0xB5 ∷ 0xB4 ∷ 0x45 ∷ 0x52 ∷ [])
      ∷ (0x87 ∷ 0x11 ∷ 0x01 ∷ 0xF0 ∷ 0xAF ∷ 0x2C ∷ 0xAC ∷ 0xAC ∷ 0xAC ∷ 0xAC ∷ 0xAC ∷ 0xAC ∷ 0xAC ∷ 0xAC ∷ 0xAC ∷ 0xAC ∷ 0xAC ∷ 0xAC ∷ 0xAC ∷ 0x97
      ∷ 0x01 ∷ 0x00 ∷ 0x8E ∷ 0x08 ∷ 0x74 ∷ 0x0F ∷ 0x54 ∷ 0x94 ∷ 0x6B ∷ 0x0A ∷ 0x4E ∷ 0xD6 ∷ []) ∷ []
  response_fields : (run toy keys begin (short toy)).transcript.responses.fields
      ≡ (0x87 ∷ 0x11 ∷ 0x01 ∷ 0x51 ∷ 0xD6 ∷ 0x56 ∷ 0x56 ∷ 0x56 ∷ 0x56 ∷ 0x56 ∷ 0x56 ∷ 0x56 ∷ 0x56 ∷ 0x56 ∷ 0x56 ∷ 0x56 ∷ 0x56 ∷ 0x56 ∷ 0x56 ∷ 0x99
      ∷ 0x02 ∷ 0x90 ∷ 0x00 ∷ 0x8E ∷ 0x08 ∷ 0x7B ∷ 0xD6 ∷ 0x22 ∷ 0x16 ∷ 0x22 ∷ 0x52 ∷ 0x76 ∷ 0xD6 ∷ [])
      ∷ (0x87 ∷ 0x11 ∷ 0x01 ∷ 0x78 ∷ 0xFF ∷ 0x7F ∷ 0x7F ∷ 0x7F ∷ 0x7F ∷ 0x7F ∷ 0x7F ∷ 0x7F ∷ 0x7F ∷ 0x7F ∷ 0x7F ∷ 0x7F ∷ 0x7F ∷ 0x7F ∷ 0x7F ∷ 0x99
      ∷ 0x02 ∷ 0x90 ∷ 0x00 ∷ 0x8E ∷ 0x08 ∷ 0xB2 ∷ 0xDF ∷ 0x48 ∷ 0x5C ∷ 0x98 ∷ 0xC0 ∷ 0xD4 ∷ 0x1D ∷ []) ∷ []
  not_excepted : Excepted toy keys begin (two toy) → ⊥
  -- a above w, r above s, and each part of a message
  a_above_w : Broken more_commands
  r_above_s : Broken more_responses
  ins_differs : Broken ins_changed
  p1_differs : Broken p1_changed
  header_differs : Broken header_changed
  data_differs : Broken data_changed
  le_differs : Broken le_changed
  status_differs : Broken status_changed
  sw2_differs : Broken sw2_changed
  response_data_differs : Broken response_data_changed
  -- the constant MAC accepts a command twice, which only equal chaining values except
  repeated_differs : Broken repeated
  at_most_one_outstanding : Agrees toy keys two_outstanding → ⊥
  no_answer_to_nothing : Agrees toy keys answer_to_nothing → ⊥
  -- what was handed out is the field
  field_differs : Agrees toy keys field_lost → ⊥
  response_field_differs : Agrees toy keys response_field_lost → ⊥
  -- eight wrong bytes break nothing
  wrong_mac : MacBreak toy keys.mac [] [] (zeros 8) → ⊥
  -- a wrong MAC is refused; a repeated response is, and what follows is accepted
  mac_refused : counts (run toy keys begin mac_changed).transcript ≡ 1 ∷ 1 ∷ 1 ∷ 0 ∷ []
  repetition_refused : counts (run toy keys begin response_again).transcript ≡ 2 ∷ 2 ∷ 2 ∷ 2 ∷ []
  mixed_not_excepted : Excepted toy keys begin mixed → ⊥
  mixed_counted : counts (run toy keys begin mixed).transcript ≡ 2 ∷ 2 ∷ 2 ∷ 2 ∷ []
  mixed_agrees : Agrees toy keys (run toy keys begin mixed).transcript
  -- w above r, and the two causes of an exception
  w_above_r : Agrees toy keys (run toy keys begin one_wrapped).transcript
  new_input : Excepted toy keys begin never_wrapped
  same_chaining_value : Excepted flat keys begin repeated

computed : Computed
unfolding ins_of p1_of sw2_of sw2_changed other_ins other_p1 ins_changed p1_changed one_byte_read toy_hash toy_mac xor_all mask toy_encrypt toy_decrypt toy keys verify get_data okay certificate field_of begin exchange two one_byte short counts same padding pad padded_length marked mark_before unpad length_field read_length is_shortest rank allowed right_size right_second right_value need◌else◌⨾◌ with_length read_object notedObject ended on_object walk read_field object encrypted_data le_object status_word mac_object command_objects response_objects command_field response_field ciphertext_length encrypted_data_length command_length response_length encoded_header command_mac_input response_mac_input all_zero keys_end keys_zero mcvs_zero keeps_phase valid counts_as_open is_turn keys_fit open_suite opening data_in ins_permitted le_need data_need command_permitted status_permitted command_wanted response_wanted big_endian command_counter response_counter require◌else◌⨾◌ ◌and_then◌ after_refusal concluded objects_of text_of command_input wrap_command_checks unwrap_command_checks command_mac command_ciphertext command_wrapped command_accepted host_wraps open_command card_unwraps wrap_response_checks unwrap_response_checks response_mac response_ciphertext response_wrapped response_accepted card_wraps open_response host_unwraps chaining_values chaining wrap_entry entryField fields_from accepted_command accepted_response noted entered moved does step run flat among distinct forged received_as other_header other_data authenticate with_le more_commands more_responses header_changed data_changed le_changed status_changed one_wrapped never_wrapped check repeated mac_changed response_again mixed all_bytes response_data_changed entry reply two_outstanding answer_to_nothing field_lost response_field_lost data_of p2_of third_of le_of sw1_of verified_text
computed =
    record {
      counted = refl;
      commands_given = refl;
      responses_given = refl;
      command_fields = refl;
      response_fields = refl;
      not_excepted = never;
      a_above_w = λ v. let h = v.a≤w in omega (arith, h);
      r_above_s = λ v. let h = v.r≤s in omega (arith, h);
      ins_differs = λ v. let e : ◌≡◌ {A = ℕ} 0x24 0x20 = ap ins_of v.commands_agree in omega (arith, e);
      p1_differs = λ v. let e : ◌≡◌ {A = ℕ} 0xFF 0x00 = ap p1_of v.commands_agree in omega (arith, e);
      header_differs = λ v. let e : ◌≡◌ {A = ℕ} 0x80 0x98 = ap p2_of v.commands_agree in omega (arith, e);
      data_differs = λ v. let e : ◌≡◌ {A = ℕ} 0x32 0x31 = ap third_of v.commands_agree in omega (arith, e);
      le_differs = λ v. let e : ◌≡◌ {A = ℕ} 1 0 = ap le_of v.commands_agree in omega (arith, e);
      status_differs = λ v. let e : ◌≡◌ {A = ℕ} 0x6A 0x90 = ap sw1_of v.responses_agree in omega (arith, e);
      sw2_differs = λ v. let e : ◌≡◌ {A = ℕ} 0x0C 0x00 = ap sw2_of v.responses_agree in omega (arith, e);
      response_data_differs = λ v. let e : ◌≡◌ {A = ℕ} 0x07 0x08 = ap data_of v.responses_agree in omega (arith, e);
      repeated_differs = λ v. let h = v.a≤w in omega (arith, h);
      at_most_one_outstanding = λ v. let h = v.w≤r+1 in omega (arith, h);
      no_answer_to_nothing = λ v. let h = v.s≤a in omega (arith, h);
      field_differs = λ v. let e : ◌≡◌ {A = ℕ} 0 10 = ap (λ (fs : List Bytes). length (get_or fs 0 [])) v.commands_written in omega (arith, e);
      response_field_differs = λ v. let e : ◌≡◌ {A = ℕ} 0 14 = ap (λ (fs : List Bytes). length (get_or fs 0 [])) v.responses_written in omega (arith, e);
      wrong_mac = λ b. let e = ap (λ (l : Bytes). get_or l 0 0) b.right in omega (arith, e);
      mac_refused = refl;
      repetition_refused = refl;
      mixed_not_excepted = not_mixed;
      mixed_counted = refl;
      mixed_agrees = held;
      w_above_r =
          record {
            r≤s = omega arith;
            s≤a = omega arith;
            a≤w = omega arith;
            w≤r+1 = omega arith;
            commands_agree = refl;
            responses_agree = refl;
            commands_written = refl;
            responses_written = refl;
          };
      new_input = inl (record { right = refl; cause = inl (λ m. Memᴰ.not-nil m) });
      same_chaining_value = inr (inr (inr (inl (record { right = refl; cause = inr (record { i = 0; j = 1; i<j = omega arith; within = omega arith; equal = refl }) }))));
    }
  where
    never : Excepted toy keys begin (two toy) → ⊥
    never (inl x) = x
    never (inr (inl b)) = sound toy keys.mac _ _ _ b refl refl
    never (inr (inr (inl x))) = x
    never (inr (inr (inr (inl b)))) = sound toy keys.rmac _ _ _ b refl refl
    never (inr (inr (inr (inr (inl x))))) = x
    never (inr (inr (inr (inr (inr (inl b)))))) = sound toy keys.mac _ _ _ b refl refl
    never (inr (inr (inr (inr (inr (inr (inl x))))))) = x
    never (inr (inr (inr (inr (inr (inr (inr (inl b)))))))) = sound toy keys.rmac _ _ _ b refl refl
    never (inr (inr (inr (inr (inr (inr (inr (inr x)))))))) = x

    not_mixed : Excepted toy keys begin mixed → ⊥
    not_mixed (inl x) = x
    not_mixed (inr (inl b)) = sound toy keys.mac _ _ _ b refl refl
    not_mixed (inr (inr (inl x))) = x
    not_mixed (inr (inr (inr (inl b)))) = sound toy keys.rmac _ _ _ b refl refl
    not_mixed (inr (inr (inr (inr (inl x))))) = x
    not_mixed (inr (inr (inr (inr (inr (inl x)))))) = x
    not_mixed (inr (inr (inr (inr (inr (inr (inl b))))))) = sound toy keys.mac _ _ _ b refl refl
    not_mixed (inr (inr (inr (inr (inr (inr (inr (inl x)))))))) = x
    not_mixed (inr (inr (inr (inr (inr (inr (inr (inr (inl b))))))))) = sound toy keys.rmac _ _ _ b refl refl
    not_mixed (inr (inr (inr (inr (inr (inr (inr (inr (inr (inl x)))))))))) = x
    not_mixed (inr (inr (inr (inr (inr (inr (inr (inr (inr (inr (inl x))))))))))) = x
    not_mixed (inr (inr (inr (inr (inr (inr (inr (inr (inr (inr (inr (inl x)))))))))))) = x
    not_mixed (inr (inr (inr (inr (inr (inr (inr (inr (inr (inr (inr (inr (inl x))))))))))))) = x
    not_mixed (inr (inr (inr (inr (inr (inr (inr (inr (inr (inr (inr (inr (inr (inl x)))))))))))))) = x
    not_mixed (inr (inr (inr (inr (inr (inr (inr (inr (inr (inr (inr (inr (inr (inr x)))))))))))))) = x

    sent : AllBytes mixed
    sent = (are_bytes [] refl, (tt, (are_bytes [] refl, (tt, (tt, (are_bytes verify.payload refl, (tt, (are_bytes [] refl, (tt, (are_bytes verify.payload refl, (tt, (tt, (tt, (are_bytes verify.payload refl, tt))))))))))))))

    held : Agrees toy keys (run toy keys begin mixed).transcript
    held =
        elim (agreement toy toy_laws 2 2 keys (record { enc = are_bytes keys.enc refl; mac = are_bytes keys.mac refl; rmac = are_bytes keys.rmac refl }) refl refl mixed sent 14)
        [ inl a ↦ a | inr e ↦ absurd (not_mixed e) ]
