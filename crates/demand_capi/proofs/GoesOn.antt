-- A trace goes on with any call: the call that ran with these arguments and its end's bytes.
use mathlib.Core.Path.{◌≡◌, refl, sym, ap, ◌∙◌}
use mathlib.Core.List.{List, [], ◌∷◌, ◌++◌}
use Prim.Native.Nat.{ℕ, ◌/◌, ◌%◌, ◌<◌}
use native.Mathlib.Omega.{arith}
use lib.ListN.{length, take, length-replicate}
use lib.Seq.{take-length}
use Rattle.octets.specs.Bytes.{Bytes, IsBytes, zeros}
use Rattle.apdu.specs.declared.StatusWord.{StatusWord}
use Rattle.apdu.specs.Apdu.{status_word, status_of}
use Rattle.session_suite.specs.StoredKeys.{Keys}
use Rattle.session.specs.declared.Side.{Side}
use Rattle.message_protocol.specs.Transcript.{Call, wrap_command, unwrap_command, wrap_response, unwrap_response, close, side_of}
use Rattle.demand_capi.specs.Calls.{Event, wraps_command, unwraps_command, wraps_response, unwraps_response, closes, end, seen, call}
use Rattle.demand_capi.specs.Agreement.{End, State, at, HandedOn, after, ran, Trace}
use Rattle.demand_capi.specs.Exists.{Typed, GoesOn}
use Rattle.demand_capi.proofs.Exists as runs

zeros_long : (n : ℕ) → length (zeros n) ≡ n
zeros_long n = length-replicate {A = ℕ} n 0

status_back : (sw : StatusWord) → sw.sw2 < 256 → status_of (status_word sw) ≡ sw
status_back sw h =
    let hi : status_word sw / 256 ≡ sw.sw1 = omega (arith, h) in
    let lo : status_word sw % 256 ≡ sw.sw2 = omega (arith, h) in
    λ i. record { sw1 = hi i; sw2 = lo i }

-- a call with these arguments, handed these bytes
record Made (bytes : Bytes) (c : Call) : Type 0 where
  pub event : Event
  pub is_call : call event ≡ c
  pub at_end : end event ≡ side_of c
  pub handed : (x : End) → x.bytes ≡ bytes → HandedOn x event

handed_on : (e : Event) (bytes : Bytes) → (seen e).held.bytes ≡ bytes → (seen e).held.len ≡ length bytes → (x : End) → x.bytes ≡ bytes → HandedOn x e
handed_on e bytes eb el x is =
    record {
      bytes = ap (λ (n : ℕ). take n (seen e).held.bytes) (el ∙ ap length (sym eb)) ∙ take-length (seen e).held.bytes ∙ eb ∙ sym is;
      len = el ∙ ap length (sym is);
    }

makes : (bytes : Bytes) (b : IsBytes bytes) (c : Call) → Typed c → Made bytes c
makes bytes b (wrap_command side m room) t =
    let h = m.header in
    let e = wraps_command side (runs.wraps-command bytes (length bytes) b h.ins h.p1 h.p2 h.le m.payload (zeros room) t) in
    record { event = e; is_call = ap (wrap_command side m) (zeros_long room); at_end = refl; handed = handed_on e bytes refl refl }
makes bytes b (unwrap_command side h field room) t =
    let e = unwraps_command side (runs.unwraps-command bytes (length bytes) b h.ins h.p1 h.p2 field (zeros room)) in
    record { event = e; is_call = ap (unwrap_command side h field) (zeros_long room); at_end = refl; handed = handed_on e bytes refl refl }
makes bytes b (wrap_response side m room) t =
    let sw = m.header in
    let e = wraps_response side (runs.wraps-response bytes (length bytes) b (status_word sw) m.payload (zeros room) t.0) in
    record {
      event = e;
      is_call = λ i. wrap_response side (record { header = status_back sw t.1 i; payload = m.payload }) (zeros_long room i);
      at_end = refl;
      handed = handed_on e bytes refl refl;
    }
makes bytes b (unwrap_response side sw field room) t =
    let e = unwraps_response side (runs.unwraps-response bytes (length bytes) b (status_word sw) field (zeros room)) in
    record { event = e; is_call = λ i. unwrap_response side (status_back sw t i) field (zeros_long room i); at_end = refl; handed = handed_on e bytes refl refl }
makes bytes b (close side) t =
    let e = closes side (runs.closes bytes (length bytes) b) in
    record { event = e; is_call = refl; at_end = refl; handed = handed_on e bytes refl refl }

trace_and : (K : Keys) (st : State) (es : List Event) (e : Event) → Trace K st es → HandedOn (at (ran K st es) (end e)) e → Trace K st (es ++ e ∷ [])
unfolding ran
trace_and K st [] e t h = (h, tt)
trace_and K st (x ∷ es) e t h = (t.0, trace_and K (after K st x) es e t.1 h)

pub goes_on : GoesOn
goes_on K st es t c typed bytes =
    let m = makes (at (ran K st es) (side_of c)).bytes bytes c typed in
    record {
      event = m.event;
      is_call = m.is_call;
      trace = trace_and K st es m.event t (m.handed (at (ran K st es) (end m.event)) (ap (λ (s : Side). (at (ran K st es) s).bytes) m.at_end));
    }
