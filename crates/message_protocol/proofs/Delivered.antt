-- Demand 2, proved: the tests pass, the field is read back, its MAC is right, and its text is what was encrypted.
use mathlib.Core.Path.{◌≡◌, refl, sym, ap, ap₂, ◌∙◌, subst}
use mathlib.Core.Bool.{Bool, true, false, ◌&&◌}
use mathlib.Core.List.{[]}
use Prim.Native.Nat.{ℕ, ◌+◌, ◌*◌, ◌/◌, ◌<◌, ◌≤◌}
use native.Mathlib.Omega.{arith}
use borrow.Author.Tests.{lt-ltb, le-leb}
use lib.Dec.{eqb, ltb}
use lib.ListN.{length, take}
use lib.Seq.{length-take-le}
use Rattle.octets.proofs.Tests.{both}
use Rattle.octets.specs.Bytes.{Bytes, IsBytes}
use Rattle.std.specs.Prelude.{if◌then◌else◌, Some}
use Rattle.field_padding.specs.Padding.{padded_length}
use Rattle.field_read.specs.Field.{ciphertext_of, covered_of}
use Rattle.field_read.specs.declared.Objects.{Objects}
use Rattle.field_write.specs.Objects.{command_objects, response_objects, command_field, response_field}
use Rattle.message_mac.specs.MacInput.{response_mac_input}
use Rattle.field_size.specs.Lengths.{ciphertext_length, encrypted_data_length, command_length, response_length}
use Rattle.field_size.proofs.LengthBounds.{data_most, some_encrypted}
use Rattle.field_write.proofs.FieldLengths.{length_command_field, length_response_field}
use Rattle.field_expected.specs.Wanted.{suits}
use Rattle.field_laws.specs.Written.{Suits, WholeBlocks, ReadsBack}
use Rattle.field_laws.proofs.EncryptedBlocks.{encrypted_blocks}
use Rattle.field_laws.proofs.CoveredWritten.{right_size_lem}
use Rattle.field_laws.proofs.ReadBack.{read_command_lem, read_response_lem}
use Rattle.session.specs.Session.{fresh}
use Rattle.session_suite.specs.StoredKeys.{stored, key_in}
use Rattle.session_suite.proofs.StoredKeys.{one_suite}
use Rattle.session_turn.specs.Transitions.{command_taken, response_taken}
use Rattle.session_turn.specs.Turn.{is_turn}
use Rattle.session_turn.proofs.InTurn.{own_turn}
use Rattle.session.specs.declared.Side.{Side}
use Rattle.session.specs.declared.Side.TheVariants.{Host, Card}
use Rattle.session.specs.declared.Phase.{Phase}
use Rattle.session.specs.declared.Phase.TheVariants.{Ready, Pending}
use Rattle.session.specs.declared.Session.{Session}
use Rattle.message_ciphers.specs.Ciphers.{Ciphers, Laws, IsKey}
use Rattle.message_ciphers.specs.Aes.{aes_ciphers}
use Rattle.message_answer.specs.Message.{CommandHeader, command_header, header_of, Command, Response, max_command_data, max_response_data, command_limit}
use Rattle.message_permission.specs.Permission.{ins_permitted, data_need, le_need, command_permitted, status_permitted, command_wanted, response_wanted}
use Rattle.message_counter.specs.Counter.{command_counter, response_counter}
use Rattle.message_answer.specs.Answer.{gave, require◌else◌⨾◌, ◌and_then◌, concluded}
use Rattle.message_answer.proofs.Required.{pass}
use Rattle.message_verify.specs.Reading.{objects_of}
use Rattle.message_verify.specs.VerifiedText.{received_in, verified_text}
use Rattle.message_verify.proofs.Stages.{gave_verified}
use Rattle.message_protocol.specs.Command.{wrap_command_checks, unwrap_command_checks, command_input, command_mac, command_ciphertext, command_wrapped, command_accepted, header_read, host_wraps, open_command, card_unwraps}
use Rattle.message_protocol.specs.Response.{wrap_response_checks, unwrap_response_checks, response_mac, response_ciphertext, response_wrapped, response_accepted, card_wraps, open_response, host_unwraps}
use Rattle.message_protocol.specs.HonestDelivery.{InStep, Keyed, CommandDelivered, DeliversCommands, ResponseDelivered, DeliversResponses, OpensInStep}
use Rattle.session_rules.proofs.KeepsTheRules.{opening_served, command_served, response_served}
use Rattle.message_protocol.proofs.Directions.{command_counter_is, response_counter_is}
use Rattle.message_protocol.proofs.Invariant.{AreKeys, Live}
use Rattle.message_protocol.proofs.Runs.{Fresh, opened, are_keys, fresh_live}

-- ---- lengths

pub command_short : (n : ℕ) (le : Bool) → n ≤ 2047 → command_length n le ≤ 2066
unfolding command_length ciphertext_length padded_length
command_short n le h = go (eqb n 0) le
  where
    go : (t le : Bool) → encrypted_data_length (if t then 0 else 16 * (n / 16 + 1)) + (if le then 3 else 0) + 10 ≤ 2066
    go true true = omega (arith, data_most 0)
    go true false = omega (arith, data_most 0)
    go false true = omega (arith, data_most (16 * (n / 16 + 1)))
    go false false = omega (arith, data_most (16 * (n / 16 + 1)))

pub response_short : (n : ℕ) → n ≤ 16383 → response_length n ≤ 16403
unfolding response_length ciphertext_length padded_length
response_short n h = go (eqb n 0)
  where
    go : (t : Bool) → encrypted_data_length (if t then 0 else 16 * (n / 16 + 1)) + 4 + 10 ≤ 16403
    go true = omega (arith, data_most 0)
    go false = omega (arith, data_most (16 * (n / 16 + 1)))

pub command_least : (n : ℕ) (le : Bool) → 10 ≤ command_length n le
unfolding command_length
command_least n le = omega arith

pub response_least : (n : ℕ) → 14 ≤ response_length n
unfolding response_length
response_least n = omega arith

turn : (side : Side) (phase : Phase) (s : Session) → s.side ≡ side → s.phase ≡ phase → is_turn side phase s.side s.phase ≡ true
turn side phase s e f = rw (e, f) (own_turn side phase)

-- ---- a command

module _ (C : Ciphers) (L : Laws C) (h c : Session) (m : Command) (wrapRoom unwrapRoom : ℕ) (step : InStep Ready h c) (keyed : Keyed h)
    (counted : h.count < command_limit) (permitted : command_permitted m.header (length m.payload) ≡ true)
    (fits : length m.payload ≤ max_command_data) (bytes : IsBytes m.payload)
    (wrapFits : command_length (length m.payload) m.header.le ≤ wrapRoom) (unwrapFits : ciphertext_length (length m.payload) ≤ unwrapRoom) where
  abbrev n : ℕ
  n = length m.payload

  abbrev x : Bytes
  x = command_ciphertext C h m.payload

  abbrev full : Bytes
  full = command_mac C h m.header (command_objects x m.header.le)

  abbrev field : Bytes
  field = command_field x m.header.le (take 8 full)

  wrap_checks : wrap_command_checks h m.header n wrapRoom ≡ gave tt
  unfolding wrap_command_checks
  wrap_checks =
      pass _ _ _ _ step.host_open (pass _ _ _ _ (turn Host Ready h step.host_side step.host_phase) (pass _ _ _ _ permitted
      (pass _ _ _ _ (le-leb n max_command_data fits) (pass _ _ _ _ (lt-ltb h.count command_limit counted)
      (pass _ _ _ _ (le-leb (command_length n m.header.le) wrapRoom wrapFits) refl)))))

  wraps : host_wraps C h m wrapRoom ≡ record { answer = gave field; next = command_taken h full }
  unfolding host_wraps concluded command_wrapped ◌and_then◌
  wraps = rw wrap_checks

  -- what permission says
  permits : ((ins_permitted m.header.ins && suits (data_need m.header.ins) (ltb 0 n)) ≡ true) × (suits (le_need m.header.ins) m.header.le ≡ true)
  unfolding command_permitted
  permits = both (ins_permitted m.header.ins && suits (data_need m.header.ins) (ltb 0 n)) (suits (le_need m.header.ins) m.header.le) permitted

  ins_permitted_lem : ins_permitted m.header.ins ≡ true
  ins_permitted_lem = (both (ins_permitted m.header.ins) (suits (data_need m.header.ins) (ltb 0 n)) permits.0).0

  data_suits : suits (data_need m.header.ins) (ltb 0 n) ≡ true
  data_suits = (both (ins_permitted m.header.ins) (suits (data_need m.header.ins) (ltb 0 n)) permits.0).1

  size : length x ≡ ciphertext_length n
  unfolding command_ciphertext
  size =
      L.encrypt_length (key_in h.suite h.sk_enc) (command_counter (h.count + 1)) m.payload keyed.enc
      (command_counter_is (h.count + 1)) bytes

  mac_size : length (take 8 full) ≡ 8
  unfolding command_mac
  mac_size =
      let maced = command_input h.command_mcv m.header (command_objects x m.header.le) in
      length-take-le 8 full (omega (arith, L.mac_length (key_in h.suite h.sk_mac) maced keyed.mac))

  suitable : Suits (command_wanted m.header.ins) x m.header.le
  unfolding command_wanted
  suitable =
      let b : WholeBlocks (16 * 128) x = encrypted_blocks 128 n x size (omega (arith, fits)) in
      record {
        encrypted = ap (suits (data_need m.header.ins)) (ap (ltb 0) size ∙ some_encrypted n) ∙ data_suits;
        size = right_size_lem (command_wanted m.header.ins) x b;
        short = omega (arith, b.1);
        second = permits.1;
      }

  back : ReadsBack (command_wanted m.header.ins) field x m.header.le (take 8 full) (command_objects x m.header.le)
  unfolding command_wanted
  back = read_command_lem (command_wanted m.header.ins) (le_need m.header.ins) x m.header.le (take 8 full) refl suitable mac_size

  abbrev o : Objects
  o = back.objects

  unwrap_checks : unwrap_command_checks c m.header.ins (length field) ≡ gave tt
  unfolding unwrap_command_checks
  unwrap_checks =
      pass _ _ _ _ step.card_open (pass _ _ _ _ (turn Card Ready c step.card_side step.card_phase) (pass _ _ _ _ ins_permitted_lem
      (pass _ _ _ _ (le-leb (length field) 2066
      (omega (arith, length_command_field x n size (take 8 full) mac_size m.header.le, command_short n m.header.le fits)))
      (pass _ _ _ _ (lt-ltb c.count command_limit (omega (arith, step.counts, counted))) refl))))

  header_same : header_read (header_of m.header) o ≡ m.header
  header_same = ap (command_header (header_of m.header)) back.second

  mac_same : command_mac C c (header_read (header_of m.header) o) (covered_of field o) ≡ full
  unfolding command_mac
  mac_same =
      ap₂ (λ (head : CommandHeader) (covered : Bytes). C.mac (key_in c.suite c.sk_mac) (command_input c.command_mcv head covered))
      header_same back.covers
      ∙ ap₂ (λ (k mcv : Bytes). C.mac k (command_input mcv m.header (command_objects x m.header.le)))
      (ap₂ key_in step.suites step.macs) step.command_mcvs

  text_same : C.decrypt (key_in c.suite c.sk_enc) (command_counter (c.count + 1)) (ciphertext_of field o) ≡ Some m.payload
  unfolding command_ciphertext
  text_same =
      ap₂ (λ (k : Bytes) (i : ℕ). C.decrypt k (command_counter (i + 1)) (ciphertext_of field o)) (ap₂ key_in step.suites step.encs) step.counts
      ∙ ap (C.decrypt (key_in h.suite h.sk_enc) (command_counter (h.count + 1))) back.encrypted
      ∙ L.decrypt_encrypt (key_in h.suite h.sk_enc) (command_counter (h.count + 1)) m.payload keyed.enc
      (command_counter_is (h.count + 1)) bytes

  text_given : verified_text C (key_in c.suite c.sk_enc) (command_counter (c.count + 1))
      (command_mac C c (header_read (header_of m.header) o) (covered_of field o)) (received_in field o) unwrapRoom ≡ gave m.payload
  text_given =
      gave_verified C _ _ _ _ unwrapRoom m.payload
      (record { fits = omega (arith, ap length back.encrypted, size, unwrapFits); right = back.tag ∙ ap (take 8) (sym mac_same); text = text_same })

  unwraps : card_unwraps C c (header_of m.header) field unwrapRoom
      ≡ record { answer = gave (record { payload = m.payload; le = m.header.le }); next = command_taken c full }
  unfolding open_command card_unwraps command_accepted concluded ◌and_then◌ objects_of
  unwraps = rw (unwrap_checks, back.accepted, text_given, mac_same, back.second)

  command_delivered : CommandDelivered C h c m wrapRoom unwrapRoom
  command_delivered =
      record {
        field = field;
        host = command_taken h full;
        card = command_taken c full;
        wraps = wraps;
        sized = length_command_field x n size (take 8 full) mac_size m.header.le;
        unwraps = unwraps;
        again =
            record {
              host_open = command_served h full step.host_open step.host_phase counted;
              card_open = command_served c full step.card_open step.card_phase (omega (arith, step.counts, counted));
              host_side = step.host_side;
              card_side = step.card_side;
              host_phase = refl;
              card_phase = refl;
              suites = step.suites;
              counts = ap (λ (i : ℕ). i + 1) step.counts;
              encs = step.encs;
              macs = step.macs;
              rmacs = step.rmacs;
              command_mcvs = refl;
              response_mcvs = step.response_mcvs;
            };
        keyed = record { enc = keyed.enc; mac = keyed.mac; rmac = keyed.rmac };
        counted = refl;
      }

-- ---- a response

module _ (C : Ciphers) (L : Laws C) (h c : Session) (m : Response) (wrapRoom unwrapRoom : ℕ) (step : InStep Pending h c) (keyed : Keyed h)
    (permitted : status_permitted m.header ≡ true) (fits : length m.payload ≤ max_response_data) (bytes : IsBytes m.payload)
    (wrapFits : response_length (length m.payload) ≤ wrapRoom) (unwrapFits : ciphertext_length (length m.payload) ≤ unwrapRoom) where
  abbrev p : ℕ
  p = length m.payload

  abbrev y : Bytes
  y = response_ciphertext C c m.payload

  abbrev whole : Bytes
  whole = response_mac C c (response_objects y m.header.sw1 m.header.sw2)

  abbrev sent : Bytes
  sent = response_field y m.header.sw1 m.header.sw2 (take 8 whole)

  response_wrap_checks : wrap_response_checks c m.header p wrapRoom ≡ gave tt
  unfolding wrap_response_checks
  response_wrap_checks =
      pass _ _ _ _ step.card_open (pass _ _ _ _ (turn Card Pending c step.card_side step.card_phase) (pass _ _ _ _ permitted
      (pass _ _ _ _ (le-leb p max_response_data fits) (pass _ _ _ _ (le-leb (response_length p) wrapRoom wrapFits) refl))))

  response_wraps : card_wraps C c m wrapRoom ≡ record { answer = gave sent; next = response_taken c whole }
  unfolding card_wraps concluded response_wrapped ◌and_then◌
  response_wraps = rw response_wrap_checks

  enc_same : key_in c.suite c.sk_enc ≡ key_in h.suite h.sk_enc
  enc_same = ap₂ key_in step.suites step.encs

  -- the card's keys are the host's
  response_encrypted : y ≡ C.encrypt (key_in h.suite h.sk_enc) (response_counter h.count) m.payload
  unfolding response_ciphertext
  response_encrypted = ap₂ (λ (k : Bytes) (i : ℕ). C.encrypt k (response_counter i) m.payload) enc_same step.counts

  response_size : length y ≡ ciphertext_length p
  response_size =
      ap length response_encrypted
      ∙ L.encrypt_length (key_in h.suite h.sk_enc) (response_counter h.count) m.payload keyed.enc
      (response_counter_is h.count) bytes

  whole_is : whole ≡ C.mac (key_in h.suite h.sk_rmac) (response_mac_input h.response_mcv (response_objects y m.header.sw1 m.header.sw2))
  unfolding response_mac
  whole_is =
      ap₂ (λ (k mcv : Bytes). C.mac k (response_mac_input mcv (response_objects y m.header.sw1 m.header.sw2)))
      (ap₂ key_in step.suites step.rmacs) step.response_mcvs

  response_mac_size : length (take 8 whole) ≡ 8
  response_mac_size =
      length-take-le 8 whole (omega (
        arith,
        ap length whole_is,
        L.mac_length (key_in h.suite h.sk_rmac)
            (response_mac_input h.response_mcv (response_objects y m.header.sw1 m.header.sw2)) keyed.rmac,
      ))

  response_suitable : Suits (response_wanted m.header) y true
  unfolding response_wanted
  response_suitable =
      let b : WholeBlocks (16 * 1024) y = encrypted_blocks 1024 p y response_size (omega (arith, fits)) in
      record { encrypted = refl; size = right_size_lem (response_wanted m.header) y b; short = omega (arith, b.1); second = refl }

  response_back : ReadsBack (response_wanted m.header) sent y true (take 8 whole) (response_objects y m.header.sw1 m.header.sw2)
  unfolding response_wanted
  response_back = read_response_lem (response_wanted m.header) m.header.sw1 m.header.sw2 y (take 8 whole) refl response_suitable response_mac_size

  abbrev q : Objects
  q = response_back.objects

  some_sent : 0 < length sent
  some_sent =
      omega (arith, length_response_field y p response_size (take 8 whole) response_mac_size m.header.sw1 m.header.sw2, response_least p)

  response_unwrap_checks : unwrap_response_checks h m.header (length sent) ≡ gave tt
  unfolding unwrap_response_checks
  response_unwrap_checks =
      pass _ _ _ _ step.host_open (pass _ _ _ _ (turn Host Pending h step.host_side step.host_phase) (pass _ _ _ _ (lt-ltb 0 (length sent) some_sent)
      (pass _ _ _ _ (le-leb (length sent) 16403
      (omega (arith, length_response_field y p response_size (take 8 whole) response_mac_size m.header.sw1 m.header.sw2, response_short p fits))) refl)))

  whole_same : response_mac C h (covered_of sent q) ≡ whole
  unfolding response_mac
  whole_same =
      ap (λ (covered : Bytes). C.mac (key_in h.suite h.sk_rmac) (response_mac_input h.response_mcv covered)) response_back.covers
      ∙ sym whole_is

  response_text : C.decrypt (key_in h.suite h.sk_enc) (response_counter h.count) (ciphertext_of sent q) ≡ Some m.payload
  response_text =
      ap (C.decrypt (key_in h.suite h.sk_enc) (response_counter h.count)) (response_back.encrypted ∙ response_encrypted)
      ∙ L.decrypt_encrypt (key_in h.suite h.sk_enc) (response_counter h.count) m.payload keyed.enc
      (response_counter_is h.count) bytes

  response_text_given : verified_text C (key_in h.suite h.sk_enc) (response_counter h.count)
      (response_mac C h (covered_of sent q)) (received_in sent q) unwrapRoom ≡ gave m.payload
  response_text_given =
      gave_verified C _ _ _ _ unwrapRoom m.payload (record {
        fits = omega (arith, ap length response_back.encrypted, response_size, unwrapFits);
        right = response_back.tag ∙ ap (take 8) (sym whole_same);
        text = response_text;
      })

  response_unwraps : host_unwraps C h m.header sent unwrapRoom ≡ record { answer = gave m; next = response_taken h whole }
  unfolding open_response host_unwraps response_accepted concluded ◌and_then◌ objects_of
  response_unwraps = rw (response_unwrap_checks, response_back.accepted, response_text_given, whole_same)

  response_delivered : ResponseDelivered C h c m wrapRoom unwrapRoom
  response_delivered =
      record {
        field = sent;
        host = response_taken h whole;
        card = response_taken c whole;
        wraps = response_wraps;
        sized = length_response_field y p response_size (take 8 whole) response_mac_size m.header.sw1 m.header.sw2;
        unwraps = response_unwraps;
        again =
            record {
              host_open = response_served h whole step.host_open step.host_phase;
              card_open = response_served c whole step.card_open step.card_phase;
              host_side = step.host_side;
              card_side = step.card_side;
              host_phase = refl;
              card_phase = refl;
              suites = step.suites;
              counts = step.counts;
              encs = step.encs;
              macs = step.macs;
              rmacs = step.rmacs;
              command_mcvs = step.command_mcvs;
              response_mcvs = refl;
            };
        keyed = record { enc = keyed.enc; mac = keyed.mac; rmac = keyed.rmac };
        counted = refl;
      }

pub delivers_commands : (C : Ciphers) → Laws C → DeliversCommands C
delivers_commands C L h c m wrapRoom unwrapRoom step keyed counted permitted fits bytes wrapFits unwrapFits =
    command_delivered C L h c m wrapRoom unwrapRoom step keyed counted permitted fits bytes wrapFits unwrapFits

pub delivers_responses : (C : Ciphers) → Laws C → DeliversResponses C
delivers_responses C L h c m wrapRoom unwrapRoom step keyed permitted fits bytes wrapFits unwrapFits =
    response_delivered C L h c m wrapRoom unwrapRoom step keyed permitted fits bytes wrapFits unwrapFits

-- ---- openings

pub opens_in_step : OpensInStep
opens_in_step n m K y oh oc =
    let h : Fresh Host n K = opened Host n K oh in
    let c : Fresh Card m K = opened Card m K oc in
    let s : c.suite ≡ h.suite = one_suite h.suite c.suite K h.fits c.fits in
    let g : AreKeys K = are_keys h.suite K y h.fits in
    let l : Live aes_ciphers K Host (fresh Host h.suite (stored K.enc) (stored K.mac) (stored K.rmac)) [] [] =
    fresh_live aes_ciphers K Host h.suite h.fits in (
      record {
        host_open = opening_served Host n K oh;
        card_open = opening_served Card m K oc;
        host_side = ap (λ (t : Session). t.side) h.is;
        card_side = ap (λ (t : Session). t.side) c.is;
        host_phase = ap (λ (t : Session). t.phase) h.is;
        card_phase = ap (λ (t : Session). t.phase) c.is;
        suites = ap (λ (t : Session). t.suite) c.is ∙ s ∙ sym (ap (λ (t : Session). t.suite) h.is);
        counts = ap (λ (t : Session). t.count) c.is ∙ sym (ap (λ (t : Session). t.count) h.is);
        encs = ap (λ (t : Session). t.sk_enc) c.is ∙ sym (ap (λ (t : Session). t.sk_enc) h.is);
        macs = ap (λ (t : Session). t.sk_mac) c.is ∙ sym (ap (λ (t : Session). t.sk_mac) h.is);
        rmacs = ap (λ (t : Session). t.sk_rmac) c.is ∙ sym (ap (λ (t : Session). t.sk_rmac) h.is);
        command_mcvs = ap (λ (t : Session). t.command_mcv) c.is ∙ sym (ap (λ (t : Session). t.command_mcv) h.is);
        response_mcvs = ap (λ (t : Session). t.response_mcv) c.is ∙ sym (ap (λ (t : Session). t.response_mcv) h.is);
      },
      (
        record {
          enc = subst IsKey (sym (ap (λ (t : Session). key_in t.suite t.sk_enc) h.is ∙ l.enc_is)) g.enc;
          mac = subst IsKey (sym (ap (λ (t : Session). key_in t.suite t.sk_mac) h.is ∙ l.mac_is)) g.mac;
          rmac = subst IsKey (sym (ap (λ (t : Session). key_in t.suite t.sk_rmac) h.is ∙ l.rmac_is)) g.rmac;
        },
        ap (λ (t : Session). t.count) h.is,
      ),
    )
