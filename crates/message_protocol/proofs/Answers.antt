-- Each call's answers on either side of its lines, computed: every number of its order, given where later tests fail too; the
-- limits, the counters, permission, and the session left.
-- Assumes nothing.
use mathlib.Core.Path.{◌≡◌, refl}
use mathlib.Core.Bool.{Bool, true, false}
use mathlib.Core.List.{List, [], ◌∷◌, ◌++◌, map}
use Prim.Native.Nat.{ℕ}
use lib.ListN.{replicate}
use Rattle.octets.specs.Bytes.{Bytes, zeros}
use Rattle.std.specs.Prelude.{if◌then◌else◌, None}
use Rattle.message_mac.specs.Same.{same}
use Rattle.field_padding.specs.Padding.{padding, pad, padded_length, marked, mark_before, unpad}
use Rattle.field_ber_length.specs.Length.{length_field, read_length, is_shortest}
use Rattle.field_expected.specs.Wanted.{rank, allowed}
use Rattle.field_object.specs.Values.{right_size, right_second, right_value}
use Rattle.field_object.specs.Object.{require◌else◌⨾◌ as need◌else◌⨾◌, with_length, read_object}
use Rattle.field_read.specs.Field.{noted as notedObject, ended, on_object, walk, read_field}
use Rattle.field_write.specs.Objects.{object, encrypted_data, le_object, status_word, mac_object, command_objects, response_objects, command_field, response_field}
use Rattle.field_size.specs.Lengths.{ciphertext_length, encrypted_data_length, command_length, response_length}
use Rattle.message_mac.specs.MacInput.{encoded_header, command_mac_input, response_mac_input}
use Rattle.apdu.specs.Apdu.{header, status}
use Rattle.session_rules.specs.Valid.{keeps_phase, valid, counts_as_open}
use Rattle.session_rules.specs.ZeroBytes.{all_zero, keys_end, keys_zero, mcvs_zero}
use Rattle.session_turn.specs.Turn.{is_turn}
use Rattle.session.specs.declared.Side.{Side}
use Rattle.session.specs.declared.Side.TheVariants.{Host, Card}
use Rattle.session.specs.declared.Phase.{Phase}
use Rattle.session.specs.declared.Phase.TheVariants.{Ready, Pending, Closed}
use Rattle.session_suite.specs.declared.Suite.TheVariants.{Cs2}
use Rattle.session.specs.declared.Session.{Session}
use Rattle.refusal.specs.Refusal.{number, extra}
use Rattle.message_ciphers.specs.Ciphers.{Ciphers}
use Rattle.message_answer.specs.Message.{CommandHeader, command_header, StatusWord, Response, CommandGiven}
use Rattle.message_permission.specs.Permission.{ins_permitted, le_need, data_need, command_permitted, status_permitted, command_wanted, response_wanted}
use Rattle.octets_numbers.specs.BigEndian.{big_endian}
use Rattle.message_counter.specs.Counter.{command_counter, response_counter}
use Rattle.message_answer.specs.Answer.{Answer, refused, gave, Out, require◌else◌⨾◌, ◌and_then◌, concluded}
use Rattle.message_answer.specs.Outcome.{after_refusal}
use Rattle.message_verify.specs.Reading.{objects_of, text_of}
use Rattle.message_verify.specs.VerifiedText.{verified_text}
use Rattle.message_protocol.specs.Command.{command_input, wrap_command_checks, unwrap_command_checks, command_mac, command_accepted, open_command, card_unwraps}
use Rattle.message_protocol.specs.Response.{wrap_response_checks, unwrap_response_checks, response_mac, response_accepted, open_response, host_unwraps}

-- number and extra; nothing where the call is not refused
numbers : {A : Type 0} → Answer A → List ℕ
numbers (refused r) = number r ∷ extra r ∷ []
numbers (gave a) = []

-- a session by its side, phase and count
at : Side → Phase → ℕ → Session
at side phase n =
    record {
      side = side;
      phase = phase;
      suite = Cs2;
      count = n;
      sk_enc = replicate 16 1 ++ zeros 16;
      sk_mac = replicate 16 2 ++ zeros 16;
      sk_rmac = replicate 16 3 ++ zeros 16;
      command_mcv = zeros 16;
      response_mcv = zeros 16;
    }

head : ℕ → Bool → CommandHeader
head ins le = command_header (header ins 0 0) le

-- MAC always zeros; every text is badly padded
bad : Ciphers
bad = record { mac = λ k m. zeros 16; encrypt = λ k n d. []; decrypt = λ k n c. None }

sw : StatusWord
sw = status 0x6A 0x82

field : ℕ → Bytes
field b = command_field (replicate 16 9) false (replicate 8 b)

reply : ℕ → Bytes
reply b = response_field (replicate 16 9) 0x6A 0x82 (replicate 8 b)

phase_of : Session → List ℕ
phase_of s = s.count ∷ (if counts_as_open s then 1 else 0) ∷ []

card : Bytes → ℕ → Out CommandGiven
card f room = card_unwraps bad (at Card Ready 3) (header 0x20 0 0) f room

host : Bytes → ℕ → Out Response
host f room = host_unwraps bad (at Host Pending 3) sw f room

record Answered : Type 0 where
  counter_1 : command_counter 1 ≡ zeros 15 ++ 1 ∷ []
  counter_258 : command_counter 258 ≡ zeros 14 ++ 1 ∷ 2 ∷ []
  response_258 : response_counter 258 ≡ 0x80 ∷ zeros 13 ++ 1 ∷ 2 ∷ []
  -- with and without data, without and with Le
  permits : map (λ ins. map (λ le. map (command_permitted (head ins le)) (0 ∷ 1 ∷ [])) (false ∷ true ∷ [])) (0x20 ∷ 0x24 ∷ 0xCB ∷ 0x87 ∷ 0x22 ∷ [])
      ≡ ((true ∷ true ∷ []) ∷ (false ∷ false ∷ []) ∷ [])
      ∷ ((false ∷ true ∷ []) ∷ (false ∷ false ∷ []) ∷ [])
      ∷ ((false ∷ false ∷ []) ∷ (false ∷ true ∷ []) ∷ [])
      ∷ ((false ∷ true ∷ []) ∷ (false ∷ true ∷ []) ∷ [])
      ∷ ((false ∷ false ∷ []) ∷ (false ∷ false ∷ []) ∷ []) ∷ []
  -- the host wraps
  w1 : numbers (wrap_command_checks (at Card Closed 9) (head 0x22 false) 2048 0) ≡ 1 ∷ 0 ∷ []
  w2 : numbers (wrap_command_checks (at Card Ready 65535) (head 0x22 false) 2048 0) ≡ 2 ∷ 0 ∷ []
  w3 : numbers (wrap_command_checks (at Host Ready 65535) (head 0x22 false) 2048 0) ≡ 3 ∷ 0 ∷ []
  w4 : numbers (wrap_command_checks (at Host Ready 65535) (head 0xCB true) 2048 0) ≡ 4 ∷ 0 ∷ []
  w5 : numbers (wrap_command_checks (at Host Ready 65535) (head 0xCB true) 2047 0) ≡ 5 ∷ 0 ∷ []
  w6 : numbers (wrap_command_checks (at Host Ready 65534) (head 0xCB true) 2047 2065) ≡ 6 ∷ 2066 ∷ []
  w : numbers (wrap_command_checks (at Host Ready 65534) (head 0xCB true) 2047 2066) ≡ []
  -- the card unwraps
  u1 : numbers (unwrap_command_checks (at Host Closed 9) 0x22 2067) ≡ 1 ∷ 0 ∷ []
  u2 : numbers (unwrap_command_checks (at Host Ready 65535) 0x22 2067) ≡ 2 ∷ 0 ∷ []
  u3 : numbers (unwrap_command_checks (at Card Ready 65535) 0x22 2067) ≡ 3 ∷ 0 ∷ []
  u4 : numbers (unwrap_command_checks (at Card Ready 65535) 0x24 2067) ≡ 4 ∷ 0 ∷ []
  u5 : numbers (unwrap_command_checks (at Card Ready 65535) 0x24 2066) ≡ 5 ∷ 0 ∷ []
  u : numbers (unwrap_command_checks (at Card Ready 65534) 0x24 2066) ≡ []
  u7 : numbers (card (0x97 ∷ []) 0).answer ≡ 7 ∷ 0 ∷ []
  u8 : numbers (card [] 0).answer ≡ 8 ∷ 0 ∷ []
  -- VERIFY with '97', GET DATA without it, CHANGE REFERENCE DATA without data
  u7_le : numbers (card_unwraps bad (at Card Ready 3) (header 0x20 0 0) (command_field [] true (zeros 8)) 0).answer ≡ 7 ∷ 0 ∷ []
  u8_le : numbers (card_unwraps bad (at Card Ready 3) (header 0xCB 0 0) (field 0) 0).answer ≡ 8 ∷ 0 ∷ []
  u8_data : numbers (card_unwraps bad (at Card Ready 3) (header 0x24 0 0) (command_field [] false (zeros 8)) 0).answer ≡ 8 ∷ 0 ∷ []
  u6 : numbers (card (field 1) 15).answer ≡ 6 ∷ 16 ∷ []
  u9 : numbers (card (field 1) 16).answer ≡ 9 ∷ 0 ∷ []
  u10 : numbers (card (field 0) 16).answer ≡ 10 ∷ 0 ∷ []
  u6_left : phase_of (card (field 1) 15).next ≡ 3 ∷ 1 ∷ []
  u9_left : phase_of (card (field 1) 16).next ≡ 0 ∷ 0 ∷ []
  u10_left : phase_of (card (field 0) 16).next ≡ 0 ∷ 0 ∷ []
  -- the card wraps
  v1 : numbers (wrap_response_checks (at Host Closed 9) (status 0x61 0) 16384 0) ≡ 1 ∷ 0 ∷ []
  v2 : numbers (wrap_response_checks (at Host Pending 2) (status 0x61 0) 16384 0) ≡ 2 ∷ 0 ∷ []
  v3 : numbers (wrap_response_checks (at Card Pending 2) (status 0x61 0) 16384 0) ≡ 3 ∷ 0 ∷ []
  v4 : numbers (wrap_response_checks (at Card Pending 2) sw 16384 0) ≡ 4 ∷ 0 ∷ []
  v6 : numbers (wrap_response_checks (at Card Pending 2) sw 16383 16402) ≡ 6 ∷ 16403 ∷ []
  v : numbers (wrap_response_checks (at Card Pending 2) sw 16383 16403) ≡ []
  -- the host unwraps
  x1 : numbers (unwrap_response_checks (at Card Closed 9) sw 0) ≡ 1 ∷ 0 ∷ []
  x2 : numbers (unwrap_response_checks (at Card Pending 2) sw 0) ≡ 2 ∷ 0 ∷ []
  x13 : numbers (unwrap_response_checks (at Host Pending 2) sw 0) ≡ 13 ∷ 0x6A82 ∷ []
  x4 : numbers (unwrap_response_checks (at Host Pending 2) sw 16404) ≡ 4 ∷ 0 ∷ []
  x : numbers (unwrap_response_checks (at Host Pending 2) sw 16403) ≡ []
  x7 : numbers (host (0x97 ∷ []) 0).answer ≡ 7 ∷ 0 ∷ []
  x8 : numbers (host (0x99 ∷ 2 ∷ 0x6A ∷ 0x82 ∷ []) 0).answer ≡ 8 ∷ 0 ∷ []
  x6 : numbers (host (reply 1) 15).answer ≡ 6 ∷ 16 ∷ []
  x9 : numbers (host (reply 1) 16).answer ≡ 9 ∷ 0 ∷ []
  x10 : numbers (host (reply 0) 16).answer ≡ 10 ∷ 0 ∷ []
  x9_left : phase_of (host (reply 1) 16).next ≡ 0 ∷ 0 ∷ []
  x10_left : phase_of (host (reply 0) 16).next ≡ 0 ∷ 0 ∷ []

answered : Answered
unfolding numbers at head bad sw field reply phase_of card host same padding pad padded_length marked mark_before unpad length_field read_length is_shortest rank allowed right_size right_second right_value need◌else◌⨾◌ with_length read_object notedObject ended on_object walk read_field object encrypted_data le_object status_word mac_object command_objects response_objects command_field response_field ciphertext_length encrypted_data_length command_length response_length encoded_header command_mac_input response_mac_input all_zero keys_end keys_zero mcvs_zero keeps_phase valid counts_as_open is_turn ins_permitted le_need data_need command_permitted status_permitted command_wanted response_wanted big_endian command_counter response_counter require◌else◌⨾◌ ◌and_then◌ after_refusal concluded objects_of text_of verified_text command_input wrap_command_checks unwrap_command_checks command_mac command_accepted open_command card_unwraps wrap_response_checks unwrap_response_checks response_mac response_accepted open_response host_unwraps
answered =
    record {
      counter_1 = refl;
      counter_258 = refl;
      response_258 = refl;
      permits = refl;
      w1 = refl;
      w2 = refl;
      w3 = refl;
      w4 = refl;
      w5 = refl;
      w6 = refl;
      w = refl;
      u1 = refl;
      u2 = refl;
      u3 = refl;
      u4 = refl;
      u5 = refl;
      u = refl;
      u7 = refl;
      u8 = refl;
      u7_le = refl;
      u8_le = refl;
      u8_data = refl;
      u6 = refl;
      u9 = refl;
      u10 = refl;
      u6_left = refl;
      u9_left = refl;
      u10_left = refl;
      v1 = refl;
      v2 = refl;
      v3 = refl;
      v4 = refl;
      v6 = refl;
      v = refl;
      x1 = refl;
      x2 = refl;
      x13 = refl;
      x4 = refl;
      x = refl;
      x7 = refl;
      x8 = refl;
      x6 = refl;
      x9 = refl;
      x10 = refl;
      x9_left = refl;
      x10_left = refl;
    }
