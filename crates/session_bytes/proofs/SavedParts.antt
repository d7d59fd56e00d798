-- The parts of a saved session: how long each is, and what its first bytes are where they are right.
use mathlib.Core.Path.{◌≡◌, refl}
use mathlib.Core.Bool.{true, ◌&&◌}
use Prim.Native.Nat.{◌-◌, ◌≤◌}
use native.Mathlib.Omega.{arith}
use borrow.Author.Tests.{eqb-true, leb-true}
use lib.Dec.{eqb, leb}
use lib.ListN.{length, get_or, length-append}
use Rattle.octets.specs.Bytes.{Bytes}
use Rattle.octets.proofs.Tests.{both}
use Rattle.octets_numbers.specs.BigEndian.{big_endian, number_in}
use Rattle.session.specs.declared.Session.{Session}
use Rattle.session_bytes.specs.Saved.{session_size, header, keys, mcvs, encode, part, headed}

pub length_header : (s : Session) → length (header s) ≡ 10
unfolding header big_endian
length_header s = refl

pub length_keys : (s : Session) → length s.sk_enc ≡ 32 → length s.sk_mac ≡ 32 → length s.sk_rmac ≡ 32
    → length (keys s) ≡ 96
unfolding keys
length_keys s e m r = simp (length-append, e, m, r)

pub length_mcvs : (s : Session) → length s.command_mcv ≡ 16 → length s.response_mcv ≡ 16 → length (mcvs s) ≡ 32
unfolding mcvs
length_mcvs s c r = simp (length-append, c, r)

pub length_encode : (s : Session) → length s.sk_enc ≡ 32 → length s.sk_mac ≡ 32 → length s.sk_rmac ≡ 32
    → length s.command_mcv ≡ 16 → length s.response_mcv ≡ 16 → length (encode s) ≡ session_size
unfolding encode
length_encode s e m r c p = simp length-append (omega (arith, length_header s, length_keys s e m r, length_mcvs s c p))

pub record Headed (b : Bytes) : Type 0 where
  pub size : length b ≡ session_size
  pub rest : number_in (part b 0 2) ≡ session_size - 2
  pub version : get_or b 2 0 ≡ 0x01
  pub side : get_or b 3 0 ≤ 1
  pub phase : get_or b 4 0 ≤ 2

pub headed_right : (b : Bytes) → headed b ≡ true → Headed b
unfolding headed
headed_right b h =
    let t0 = eqb (length b) session_size in
    let t1 = eqb (number_in (part b 0 2)) (session_size - 2) in
    let t2 = eqb (get_or b 2 0) 0x01 in
    let t3 = leb (get_or b 3 0) 1 in
    let e4 = both (t0 && t1 && t2 && t3) (leb (get_or b 4 0) 2) h in
    let e3 = both (t0 && t1 && t2) t3 e4.0 in
    let e2 = both (t0 && t1) t2 e3.0 in
    let e1 = both t0 t1 e2.0 in
    record {
      size = eqb-true (length b) session_size e1.0;
      rest = eqb-true (number_in (part b 0 2)) (session_size - 2) e1.1;
      version = eqb-true (get_or b 2 0) 0x01 e2.1;
      side = leb-true (get_or b 3 0) 1 e3.1;
      phase = leb-true (get_or b 4 0) 2 e4.1;
    }
