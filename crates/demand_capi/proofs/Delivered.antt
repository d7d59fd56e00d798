-- Demand 2 of the calls from C, from demand 2 of the definitions.
use mathlib.Core.Path.{◌≡◌, refl, sym, ap, ap₂, subst, ◌∙◌}
use mathlib.Core.Bool.{true, false}
use mathlib.Core.Logic.{◌⊎◌, inl, inr}
use Prim.Native.Nat.{ℕ}
use native.Mathlib.Omega.{arith}
use lib.ListN.{length}
use Rattle.octets.specs.Bytes.{Bytes, IsBytes}
use Rattle.octets.proofs.Tests.{both}
use Rattle.octets.proofs.ByteStrings.{byte_at, bytes_taken}
use Rattle.refusal.specs.declared.Refusal.{Refusal}
use Rattle.refusal.specs.declared.Refusal.TheVariants.{BadSession}
use Rattle.session.specs.Opening.{opening}
use Rattle.session.specs.declared.Side.TheVariants.{Host, Card}
use Rattle.session.specs.declared.Session.{Session}
use Rattle.session_rules.specs.Valid.{valid, is_open, counts_as_open}
use Rattle.session_bytes.specs.Saved.{encode}
use Rattle.session_bytes.specs.Lengths.{Lengths}
use Rattle.session_bytes.proofs.SessionLengths.{opening_lengths}
use Rattle.message_ciphers.specs.Aes.{aes_ciphers}
use Rattle.message_ciphers.proofs.AesLaws.{aes_mac_length}
use Rattle.apdu.specs.declared.Header.{Header}
use Rattle.apdu.specs.declared.StatusWord.{StatusWord}
use Rattle.apdu.specs.Apdu.{header}
use Rattle.message_answer.specs.Message.{Response, CommandGiven}
use Rattle.message_answer.specs.Answer.{refused, gave, Out}
use Rattle.message_protocol.specs.HonestDelivery.{Keyed}
use Rattle.message_protocol.specs.Command.{card_unwraps}
use Rattle.message_protocol.specs.Response.{host_unwraps}
use Rattle.message_protocol.specs.Transcript.{Call, wrap_command, unwrap_command, wrap_response, unwrap_response, Gives, does}
use Rattle.message_protocol.proofs.KeysTyped.{keys_typed}
use Rattle.message_protocol.proofs.LengthsKept.{keeps_lengths}
use Rattle.message_protocol.proofs.Theorems.{demand2_commands, demand2_responses, demand2_openings}
use Rattle.capi_session.proofs.HandedOn.{arrays}
use Rattle.demand_capi.specs.Calls.{open_host_given, open_card_given, Event, wraps_command, unwraps_command, wraps_response, unwraps_response, wrap_command_given, unwrap_command_given, wrap_response_given, unwrap_response_given, seen, call, answer}
use Rattle.demand_capi.specs.Agreement.{End}
use Rattle.demand_capi.specs.HonestDelivery.{Gets, command, CommandCarried, DeliversCommands, response, ResponseCarried, DeliversResponses, OpensInStep}
use Rattle.demand_capi.proofs.Told.{held_bytes}
use Rattle.demand_capi.proofs.Step.{Good, bytes_after, same_answer}
use Rattle.demand_capi.proofs.Runs.{host_done, card_done, host_left, card_left}

never : {P : Type 0} → ◌≡◌ {A = ℕ} 0 1 → P
never z = let o : ⊥ = omega arith in absurd o

abbrev held_by : Session → End
held_by s = record { bytes = encode s; closed = false }

good : (s : Session) → counts_as_open s ≡ true → Lengths s → Good (held_by s) s
unfolding counts_as_open
good s o l = record { bytes = refl; rules = (both (is_open s.phase) (valid s) o).1; lengths = l; open_is = λ f. o }

-- a call with a session that gives something, by the definition, gives it
gives : (e : Event) (s : Session) → Good (held_by s) s → Gets e s → (g : Gives (call e)) → (does aes_ciphers s (call e)).answer ≡ gave g → answer e ≡ gave g
gives e s x h g d = go (same_answer e (held_by s) s x h)
  where
    go : ((r : Refusal) × ((does aes_ciphers s (call e)).answer ≡ refused r) × (answer e ≡ refused BadSession)) ⊎ (answer e ≡ (does aes_ciphers s (call e)).answer)
        → answer e ≡ gave g
    go (inl q) = let z = sym q.1 ∙ d in never (cc)
    go (inr q) = q ∙ d

-- the keys of a session that a call got are bytes
keyed : (e : Event) (s : Session) → Lengths s → Gets e s → Keyed s
keyed e s l h =
    let bytes : IsBytes (encode s) = subst IsBytes h.bytes (bytes_taken (seen e).held.len (seen e).held.bytes (held_bytes e)) in
    let a = arrays s l bytes in
    keys_typed s l.enc l.mac l.rmac
    (byte_at s.sk_enc a.enc.bytes) (byte_at s.sk_mac a.mac.bytes) (byte_at s.sk_rmac a.rmac.bytes)

next_lengths : (s : Session) → Lengths s → (c : Call) → Lengths (does aes_ciphers s c).next
next_lengths s l c = keeps_lengths aes_ciphers aes_mac_length s l c

pub delivers_commands : DeliversCommands
unfolding does
delivers_commands w u h c t getsHost getsCard counted permitted short wrapFits unwrapFits =
    let host = wraps_command Host w in
    let card = unwraps_command Card u in
    let i = t.in_step in
    let gh = good h i.host_open t.host_lengths in
    let gc = good c i.card_open t.card_lengths in
    let d = demand2_commands h c (command w) (length (wrap_command_given w).field) (length (unwrap_command_given u).payload) i
    (keyed host h t.host_lengths getsHost) counted permitted short w.met.1.1 wrapFits unwrapFits in
    let unwrapped : CommandCarried w u d.field → does aes_ciphers c (call card)
    ≡ record { answer = gave (record { payload = (command w).payload; le = (command w).header.le }); next = d.card } =
    λ k. ap₂ (λ (x : Header) (f : Bytes). card_unwraps aes_ciphers c x f (length (unwrap_command_given u).payload)) (λ i. header (k.ins i) (k.p1 i) (k.p2 i)) k.whole ∙ d.unwraps in
    let m = (command w).header in
    record {
      field = d.field;
      host = d.host;
      card = d.card;
      wraps = gives host h gh getsHost d.field (ap (λ (o : Out Bytes). o.answer) d.wraps);
      host_left = bytes_after host (held_by h) h gh getsHost ∙ ap (λ (o : Out Bytes). encode o.next) d.wraps;
      unwraps = λ k. gives card c gc getsCard _ (ap (λ (o : Out CommandGiven). o.answer) (unwrapped k));
      card_left = λ k. bytes_after card (held_by c) c gc getsCard ∙ ap (λ (o : Out CommandGiven). encode o.next) (unwrapped k);
      again = record {
        in_step = d.again;
        host_lengths =
            subst Lengths (ap (λ (o : Out Bytes). o.next) d.wraps)
            (next_lengths h t.host_lengths (wrap_command Host (command w) (length (wrap_command_given w).field)));
        card_lengths =
            subst Lengths (ap (λ (o : Out CommandGiven). o.next) d.unwraps)
            (next_lengths c t.card_lengths (unwrap_command Card (header m.ins m.p1 m.p2) d.field (length (unwrap_command_given u).payload)));
      };
      counted = d.counted;
    }

pub delivers_responses : DeliversResponses
unfolding does
delivers_responses w u h c t getsCard getsHost permitted short wrapFits unwrapFits =
    let host = unwraps_response Host u in
    let card = wraps_response Card w in
    let i = t.in_step in
    let gh = good h i.host_open t.host_lengths in
    let gc = good c i.card_open t.card_lengths in
    let d = demand2_responses h c (response w) (length (wrap_response_given w).field) (length (unwrap_response_given u).payload) i
    (keyed host h t.host_lengths getsHost) permitted short w.met.1.1 wrapFits unwrapFits in
    let unwrapped : ResponseCarried w u d.field → does aes_ciphers h (call host) ≡ record { answer = gave (response w); next = d.host } =
    λ k. ap₂ (λ (sw : StatusWord) (f : Bytes). host_unwraps aes_ciphers h sw f (length (unwrap_response_given u).payload)) k.sw k.whole ∙ d.unwraps in
    record {
      field = d.field;
      host = d.host;
      card = d.card;
      wraps = gives card c gc getsCard d.field (ap (λ (o : Out Bytes). o.answer) d.wraps);
      card_left = bytes_after card (held_by c) c gc getsCard ∙ ap (λ (o : Out Bytes). encode o.next) d.wraps;
      unwraps = λ k. gives host h gh getsHost _ (ap (λ (o : Out Response). o.answer) (unwrapped k));
      host_left = λ k. bytes_after host (held_by h) h gh getsHost ∙ ap (λ (o : Out Response). encode o.next) (unwrapped k);
      again = record {
        in_step = d.again;
        host_lengths =
            subst Lengths (ap (λ (o : Out Response). o.next) d.unwraps)
            (next_lengths h t.host_lengths (unwrap_response Host (response w).header d.field (length (unwrap_response_given u).payload)));
        card_lengths =
            subst Lengths (ap (λ (o : Out Bytes). o.next) d.wraps)
            (next_lengths c t.card_lengths (wrap_response Card (response w) (length (wrap_response_given w).field)));
      };
      counted = d.counted;
    }

pub opens_in_step : OpensInStep
opens_in_step h c alike =
    let K = (open_host_given h).keys in
    let d = demand2_openings (open_host_given h).suite (open_card_given c).suite K h.met.1 (host_done h c alike) (card_done h c alike) in
    record {
      host = (opening Host (open_host_given h).suite K).next;
      card = (opening Card (open_card_given c).suite K).next;
      host_left = host_left h c alike;
      card_left = card_left h c alike;
      together = record {
        in_step = d.0;
        host_lengths = opening_lengths Host (open_host_given h).suite K (host_done h c alike);
        card_lengths = opening_lengths Card (open_card_given c).suite K (card_done h c alike);
      };
      counted = d.1.1;
    }
