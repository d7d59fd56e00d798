-- Decoding what was encoded gives the same session.
use mathlib.Core.Path.{◌≡◌, refl, ap, ◌∙◌}
use mathlib.Core.Bool.{true}
use mathlib.Core.List.{[], ◌++◌, append_assoc, append-nil}
use Prim.Native.Nat.{ℕ, ◌≤◌}
use native.Mathlib.Omega.{arith}
use borrow.Author.Tests.{eq-eqb}
use lib.Dec.{leb}
use lib.ListN.{length, length-append}
use lib.Seq.{take_at, drop_at}
use Rattle.std.specs.Prelude.{Some}
use Rattle.octets.specs.Bytes.{Bytes}
use Rattle.octets_numbers.specs.BigEndian.{big_endian, number_from, number_in}
use Rattle.octets_numbers.proofs.BigEndian.{number_big_endian}
use Rattle.session_suite.specs.Suites.{number, suite_of}
use Rattle.session.specs.Arrays.{Arrays}
use Rattle.session.specs.declared.Side.{Side}
use Rattle.session.specs.declared.Side.TheVariants.{Host, Card}
use Rattle.session.specs.declared.Phase.{Phase}
use Rattle.session.specs.declared.Phase.TheVariants.{Ready, Pending, Closed}
use Rattle.session_suite.specs.declared.Suite.{Suite}
use Rattle.session_suite.specs.declared.Suite.TheVariants.{Cs2, Cs7}
use Rattle.session.specs.declared.Session.{Session}
use Rattle.session_rules.specs.Valid.{valid}
use Rattle.session_rules.proofs.KeepsTheRules.{valid_count}
use Rattle.session_bytes.specs.Saved.{session_size, side_number, phase_number, header, keys, mcvs, encode, headed, side_from, phase_from, count_from, part, session_from, decoded_to, accepted, decode_suite, decode}
use Rattle.session_bytes.proofs.SavedParts.{length_header, length_keys, length_encode}

-- ---- numbers

side_back : (side : Side) → side_from (side_number side) ≡ side
side_back Host = refl
side_back Card = refl

phase_back : (phase : Phase) → phase_from (phase_number phase) ≡ phase
phase_back Ready = refl
phase_back Pending = refl
phase_back Closed = refl

suite_back : (suite : Suite) → suite_of (number suite) ≡ Some suite
suite_back Cs2 = refl
suite_back Cs7 = refl

side_known : (side : Side) → leb (side_number side) 1 ≡ true
side_known Host = refl
side_known Card = refl

phase_known : (phase : Phase) → leb (phase_number phase) 2 ≡ true
phase_known Ready = refl
phase_known Pending = refl
phase_known Closed = refl

-- ---- parts

-- xs, between what stands before it and behind it
between : (before xs behind : Bytes) (i n : ℕ) → length before ≡ i → length xs ≡ n → part (before ++ (xs ++ behind)) i n ≡ xs
between before xs behind i n h k = rw (drop_at before (xs ++ behind) i h, take_at xs behind n k)

module _ (s : Session) (a : Arrays s) where
  abbrev enc : Bytes
  enc = s.sk_enc

  abbrev mac : Bytes
  mac = s.sk_mac

  abbrev rmac : Bytes
  rmac = s.sk_rmac

  abbrev command : Bytes
  command = s.command_mcv

  abbrev response : Bytes
  response = s.response_mcv

  whole : length (encode s) ≡ session_size
  whole = length_encode s a.enc.size a.mac.size a.rmac.size a.command.size a.response.size

  enc_back : part (encode s) 10 32 ≡ enc
  unfolding encode keys mcvs
  enc_back =
      let e : encode s ≡ header s ++ (enc ++ (mac ++ (rmac ++ (command ++ response)))) = simp append_assoc in
      ap (λ (l : Bytes). part l 10 32) e
      ∙ between (header s) enc (mac ++ (rmac ++ (command ++ response))) 10 32 (length_header s) a.enc.size

  mac_back : part (encode s) 42 32 ≡ mac
  unfolding encode keys mcvs
  mac_back =
      let e : encode s ≡ (header s ++ enc) ++ (mac ++ (rmac ++ (command ++ response))) = simp append_assoc in
      let l : length (header s ++ enc) ≡ 42 = simp length-append (omega (arith, length_header s, a.enc.size)) in
      ap (λ (l : Bytes). part l 42 32) e ∙ between (header s ++ enc) mac (rmac ++ (command ++ response)) 42 32 l a.mac.size

  rmac_back : part (encode s) 74 32 ≡ rmac
  unfolding encode keys mcvs
  rmac_back =
      let e : encode s ≡ (header s ++ enc ++ mac) ++ (rmac ++ (command ++ response)) = simp append_assoc in
      let l : length (header s ++ enc ++ mac) ≡ 74 = simp length-append (omega (arith, length_header s, a.enc.size, a.mac.size)) in
      ap (λ (l : Bytes). part l 74 32) e ∙ between (header s ++ enc ++ mac) rmac (command ++ response) 74 32 l a.rmac.size

  command_back : part (encode s) 106 16 ≡ command
  unfolding encode mcvs
  command_back =
      let k = length_keys s a.enc.size a.mac.size a.rmac.size in
      let l : length (header s ++ keys s) ≡ 106 = simp length-append (omega (arith, length_header s, k)) in
      between (header s ++ keys s) command response 106 16 l a.command.size

  response_back : part (encode s) 122 16 ≡ response
  unfolding encode mcvs
  response_back =
      let k = length_keys s a.enc.size a.mac.size a.rmac.size in
      let e : encode s ≡ (header s ++ keys s ++ command) ++ (response ++ []) = simp (append_assoc, append-nil) in
      let l : length (header s ++ keys s ++ command) ≡ 122 = simp length-append (omega (arith, length_header s, k, a.command.size)) in
      ap (λ (l : Bytes). part l 122 16) e ∙ between (header s ++ keys s ++ command) response [] 122 16 l a.response.size

  count_back : s.count ≤ 65535 → count_from (encode s) ≡ s.count
  unfolding encode header big_endian
  count_back h = number_big_endian 4 s.count (omega arith)

  session_back : s.count ≤ 65535 → session_from (encode s) s.suite ≡ s
  unfolding session_from encode header big_endian
  session_back h =
      λ i. record {
        side = side_back s.side i;
        phase = phase_back s.phase i;
        suite = s.suite;
        count = count_back h i;
        sk_enc = enc_back i;
        sk_mac = mac_back i;
        sk_rmac = rmac_back i;
        command_mcv = command_back i;
        response_mcv = response_back i;
      }

  headed_back : headed (encode s) ≡ true
  unfolding headed encode header big_endian number_in number_from
  headed_back = rw (eq-eqb _ _ whole, side_known s.side, phase_known s.phase)

  pub decode_encode : valid s ≡ true → decode (encode s) ≡ decoded_to s
  unfolding decode decode_suite accepted encode header big_endian
  decode_encode h = rw (headed_back, suite_back s.suite, session_back (valid_count s h), h)
