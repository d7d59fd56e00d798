-- Encoding what was decoded gives the same bytes. So exactly the encodings of sessions that keep the rules are decoded.
use mathlib.Core.Path.{◌≡◌, refl, sym, ap, ap₂, subst, ◌∙◌}
use mathlib.Core.Bool.{Bool, true, false}
use mathlib.Core.List.{◌∷◌, ◌++◌, append_assoc}
use mathlib.Core.Logic.{◌↔◌}
use Prim.Native.Nat.{ℕ, zero, suc, ◌+◌, ◌-◌, ◌<◌, ◌≤◌}
use native.Mathlib.Omega.{arith}
use borrow.Author.Tests.{eqb-true}
use lib.Dec.{eqb}
use lib.ListN.{length, get_or, drop, length-drop, take-append-drop}
use lib.Seq.{length-take-le, drop-cons, drop-drop, get_or-take, get_or-drop, take_all}
use Rattle.octets.specs.Bytes.{Bytes, IsBytes}
use Rattle.std.specs.Prelude.{if◌then◌else◌, Option, Some, None, Ok}
use Rattle.octets.proofs.ByteStrings.{byte_at}
use Rattle.octets_numbers.specs.BigEndian.{big_endian, number_in}
use Rattle.octets_numbers.proofs.BigEndian.{big_endian_number}
use Rattle.session_suite.specs.Suites.{number, suite_of}
use Rattle.session.specs.Arrays.{Block, Arrays}
use Rattle.session_suite.specs.declared.Suite.{Suite}
use Rattle.session_suite.specs.declared.Suite.TheVariants.{Cs2, Cs7}
use Rattle.session.specs.declared.Session.{Session}
use Rattle.session_rules.specs.Valid.{valid}
use Rattle.session_bytes.specs.Saved.{session_size, side_number, phase_number, header, keys, mcvs, encode, headed, side_from, phase_from, part, session_from, accepted, decode_suite, decode}
use Rattle.session_bytes.proofs.SavedParts.{Headed, headed_right}
use Rattle.session_bytes.proofs.DecodeEncode.{decode_encode}

-- ---- what was decoded

pub record Read (b : Bytes) (s : Session) : Type 0 where
  pub suite : Suite
  pub first : Headed b
  pub known : suite_of (get_or b 5 0) ≡ Some suite
  pub keeps : valid s ≡ true
  pub session : s ≡ session_from b suite

pub decoded_read : (b : Bytes) (s : Session) → decode b ≡ Ok s → Read b s
unfolding decode decode_suite accepted
decoded_read b s = at_header (headed b) refl
  where
    never : {A : Type 0} → ◌≡◌ {A = ℕ} 0 1 → A
    never z = let o : ⊥ = omega arith in absurd o

    at_rules : (suite : Suite) (keeps : Bool) → headed b ≡ true → suite_of (get_or b 5 0) ≡ Some suite
        → valid (session_from b suite) ≡ keeps → decode b ≡ Ok s → Read b s
    at_rules suite true h k v e =
        let g : s ≡ session_from b suite = let f = rw (h, k, v) at e in cc in
        record { suite = suite; first = headed_right b h; known = k; keeps = ap valid g ∙ v; session = g }
    at_rules suite false h k v e = let g = rw (h, k, v) at e in never (cc)

    at_suite : (known : Option Suite) → headed b ≡ true → suite_of (get_or b 5 0) ≡ known → decode b ≡ Ok s → Read b s
    at_suite (Some suite) h k e = at_rules suite (valid (session_from b suite)) h k refl e
    at_suite None h k e = let g = rw (h, k) at e in never (cc)

    at_header : (right : Bool) → headed b ≡ right → decode b ≡ Ok s → Read b s
    at_header true h e = at_suite (suite_of (get_or b 5 0)) h refl e
    at_header false h e = let g = rw h at e in never (cc)

-- ---- numbers

side_number_lem : (n : ℕ) → n ≤ 1 → side_number (side_from n) ≡ n
side_number_lem zero h = refl
side_number_lem (suc zero) h = refl
side_number_lem (suc (suc n)) h = let z : ⊥ = omega arith in absurd z

phase_number_lem : (n : ℕ) → n ≤ 2 → phase_number (phase_from n) ≡ n
phase_number_lem zero h = refl
phase_number_lem (suc zero) h = refl
phase_number_lem (suc (suc zero)) h = refl
phase_number_lem (suc (suc (suc n))) h = let z : ⊥ = omega arith in absurd z

suite_number : (n : ℕ) (suite : Suite) → suite_of n ≡ Some suite → number suite ≡ n
suite_number n suite = at_2 (eqb n 2) refl
  where
    at_7 : (t : Bool) → eqb n 7 ≡ t → (if t then Some Cs7 else None) ≡ Some suite → number suite ≡ n
    at_7 true e k = let s : Cs7 ≡ suite = cc in sym (ap number s) ∙ sym (eqb-true n 7 e)
    at_7 false e k = let z : ◌≡◌ {A = ℕ} 0 1 = cc in let o : ⊥ = omega arith in absurd o

    at_2 : (t : Bool) → eqb n 2 ≡ t → (if t then Some Cs2 else (if eqb n 7 then Some Cs7 else None)) ≡ Some suite
        → number suite ≡ n
    at_2 true e k = let s : Cs2 ≡ suite = cc in sym (ap number s) ∙ sym (eqb-true n 2 e)
    at_2 false e k = at_7 (eqb n 7) refl k

-- ---- parts

split : (b : Bytes) (at n : ℕ) → drop at b ≡ part b at n ++ drop (at + n) b
split b at n = sym (take-append-drop n (drop at b)) ∙ ap (λ (l : Bytes). part b at n ++ l) (drop-drop n at b)

part_block : (b : Bytes) (at n : ℕ) → IsBytes b → at + n ≤ length b → Block n (part b at n)
part_block b at n h l =
    let size : length (part b at n) ≡ n = length-take-le n (drop at b) (simp length-drop (omega arith)) in
    record {
      size = size;
      bytes =
          λ i k. subst (λ (x : ℕ). x < 256) (sym (get_or-take n (drop at b) i 0 (omega arith) ∙ get_or-drop at b i 0))
          (byte_at b h (at + i));
    }

-- the number in a part has the part's bytes
number_part : (b : Bytes) (at n : ℕ) → IsBytes b → at + n ≤ length b → big_endian n (number_in (part b at n)) ≡ part b at n
number_part b at n h l =
    let p = part_block b at n h l in
    ap (λ (k : ℕ). big_endian k (number_in (part b at n))) (sym p.size) ∙ big_endian_number (part b at n) p.bytes

module _ (b : Bytes) (h : IsBytes b) (t : Session) (r : Read b t) where
  abbrev s : Session
  s = session_from b r.suite

  read_arrays : Arrays s
  unfolding session_from
  read_arrays =
      let size = r.first.size in
      record {
        enc = part_block b 10 32 h (omega arith);
        mac = part_block b 42 32 h (omega arith);
        rmac = part_block b 74 32 h (omega arith);
        command = part_block b 106 16 h (omega arith);
        response = part_block b 122 16 h (omega arith);
      }

  header_same : b ≡ header s ++ drop 10 b
  unfolding session_from header
  header_same =
      let size = r.first.size in
      split b 0 2
      ∙ ap₂ ◌++◌ (sym (number_part b 0 2 h (omega arith)) ∙ ap (big_endian 2) r.first.rest)
      (cons 2 r.first.version (omega arith)
      (cons 3 (sym (side_number_lem (get_or b 3 0) r.first.side)) (omega arith)
      (cons 4 (sym (phase_number_lem (get_or b 4 0) r.first.phase)) (omega arith)
      (cons 5 (sym (suite_number (get_or b 5 0) r.suite r.known)) (omega arith)
      (split b 6 4 ∙ ap (λ (l : Bytes). l ++ drop 10 b) (sym (number_part b 6 4 h (omega arith))))))))
      ∙ sym (append_assoc (big_endian 2 (session_size - 2)) _ (drop 10 b))
    where
      cons : (i : ℕ) {x : ℕ} {rest : Bytes} → get_or b i 0 ≡ x → i < length b → drop (suc i) b ≡ rest → drop i b ≡ x ∷ rest
      cons i e l t = drop-cons b i 0 l ∙ ap₂ (λ (y : ℕ) (ys : Bytes). y ∷ ys) e t

  session_same : encode s ≡ b
  unfolding session_from encode keys mcvs
  session_same =
      let size = r.first.size in
      let last : part b 122 16 ≡ drop 122 b = take_all 16 (drop 122 b) (simp length-drop (omega arith)) in
      sym (header_same ∙ ap (λ (l : Bytes). header s ++ l) (split b 10 32 ∙ ap (λ (l : Bytes). part b 10 32 ++ l) (split b 42 32
      ∙ ap (λ (l : Bytes). part b 42 32 ++ l) (split b 74 32 ∙ ap (λ (l : Bytes). part b 74 32 ++ l) (split b 106 16
      ∙ ap (λ (l : Bytes). part b 106 16 ++ l) (sym last)))))
      ∙ simp append_assoc)

-- ---- the laws

module _ (b : Bytes) (h : IsBytes b) (s : Session) (e : decode b ≡ Ok s) where
  pub encode_decode : encode s ≡ b
  encode_decode = let r = decoded_read b s e in ap encode r.session ∙ session_same b h s r

  -- the arrays of what is decoded have their lengths
  pub decoded_arrays : Arrays s
  decoded_arrays = let r = decoded_read b s e in subst Arrays (sym r.session) (read_arrays b h s r)

-- what is decoded keeps the rules
pub decoded_valid : (b : Bytes) (s : Session) → decode b ≡ Ok s → valid s ≡ true
decoded_valid b s e = (decoded_read b s e).keeps

-- a session is decoded from exactly its encoding
pub decoded_exactly : (b : Bytes) → IsBytes b → (s : Session)
    → (decode b ≡ Ok s) ↔ ((valid s ≡ true) × Arrays s × (b ≡ encode s))
decoded_exactly b h s = (
  λ e. (decoded_valid b s e, decoded_arrays b h s e, sym (encode_decode b h s e)),
  λ w. ap decode w.2 ∙ decode_encode s w.1 w.0,
)
