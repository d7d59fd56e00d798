-- The bytes that a call leaves are read by the next one as the session that it left.
use mathlib.Core.Path.{◌≡◌, ap, subst, ◌∙◌}
use mathlib.Core.Bool.{true}
use mathlib.Core.List.{◌++◌}
use Prim.Native.Nat.{◌≤◌}
use native.Mathlib.Omega.{arith}
use borrow.Author.Tests.{le-leb}
use lib.ListN.{length, take, drop, length-take}
use lib.Seq.{take_at}
use Rattle.octets.specs.Bytes.{IsBytes}
use Rattle.octets.specs.Write.{over}
use Rattle.session.specs.Arrays.{Arrays}
use Rattle.session.specs.declared.Session.{Session}
use Rattle.session_rules.specs.Valid.{valid}
use Rattle.std.specs.Prelude.{Ok}
use Rattle.session_bytes.specs.Saved.{Decoded, session_size, header, keys, mcvs, encode, decode}
use Rattle.session_bytes.proofs.DecodeEncode.{decode_encode}
use Rattle.message_answer.specs.Answer.{Out}
use Rattle.capi_session.specs.SessionBytes.{Holder, served_by, on_holder, Held, session_in, put_in}
use Rattle.octets.proofs.ByteStrings.{bytes_left, bytes_right, bytes_taken}
use Rattle.session_bytes.specs.Lengths.{Lengths}
use Rattle.session_bytes.proofs.SessionLengths.{encode_long}

module _ (s : Session) (l : Lengths s) (h : IsBytes (encode s)) where
  front : IsBytes (header s ++ keys s)
  unfolding encode
  front = bytes_left (header s ++ keys s) (mcvs s) h

  key_bytes : IsBytes (s.sk_enc ++ s.sk_mac ++ s.sk_rmac)
  unfolding keys
  key_bytes = bytes_right (header s) (keys s) front

  mcv_bytes : IsBytes (s.command_mcv ++ s.response_mcv)
  unfolding encode mcvs
  mcv_bytes = bytes_right (header s ++ keys s) (mcvs s) h

  -- what the types say of a session's arrays, from its bytes
  pub arrays : Arrays s
  arrays =
      let two = bytes_left (s.sk_enc ++ s.sk_mac) s.sk_rmac key_bytes in
      record {
        enc = record { size = l.enc; bytes = bytes_left s.sk_enc s.sk_mac two };
        mac = record { size = l.mac; bytes = bytes_right s.sk_enc s.sk_mac two };
        rmac = record { size = l.rmac; bytes = bytes_right (s.sk_enc ++ s.sk_mac) s.sk_rmac key_bytes };
        command = record { size = l.command; bytes = bytes_left s.command_mcv s.response_mcv mcv_bytes };
        response = record { size = l.response; bytes = bytes_right s.command_mcv s.response_mcv mcv_bytes };
      }

-- the session's bytes at the start of a buffer, handed in with their length
pub reads_back : (h : Held) (s : Session) → IsBytes h.bytes → valid s ≡ true → Lengths s → take h.len h.bytes ≡ encode s
    → h.len ≡ length (encode s) → session_in h ≡ Ok s
unfolding session_in
reads_back h s b v l e n =
    let fits : h.len ≤ length h.bytes = omega (arith, n, ap length e, length-take h.len h.bytes) in
    let bytes : IsBytes (encode s) = subst IsBytes e (bytes_taken h.len h.bytes b) in
    rw (le-leb h.len (length h.bytes) fits) (ap decode e ∙ decode_encode s (arrays s l bytes) v)

-- the bytes of the next session
pub left_bytes_lem : (h : Held) (s : Session) → Lengths s → take (put_in h s).len (put_in h s).bytes ≡ encode s
unfolding put_in over
left_bytes_lem h s l = take_at (encode s) (drop (length (encode s)) h.bytes) session_size (encode_long s l)

-- a call on a holder whose session is known: its answer, and what is held then
pub on_read : {H A : Type 0} (by : Holder H) (h : H) (s : Session) (call : Session → Out A) → by.read h ≡ Ok s
    → on_holder by h call ≡ record { answer = (call s).answer; held = by.put h (call s).next }
unfolding served_by
on_read by h s call e = ap (λ (d : Decoded). served_by d (by.put h) h call) e
