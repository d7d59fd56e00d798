-- Demand 2 of the functions, from demand 2 of the definitions.
-- Assumes nothing.
use mathlib.Core.Path.{◌≡◌, sym, ap, ap₂, subst, ◌∙◌}
use lib.ListN.{length}
use Rattle.octets.specs.Bytes.{Bytes}
use Rattle.session_suite.specs.StoredKeys.{key_in}
use Rattle.session.specs.Opening.{Opened, opening}
use Rattle.session_suite.specs.declared.Suite.{Suite}
use Rattle.session.specs.declared.Side.TheVariants.{Host, Card}
use Rattle.session.specs.declared.Phase.TheVariants.{Ready, Pending}
use Rattle.session.specs.declared.Session.{Session}
use Rattle.message_ciphers.specs.Aes.{aes_ciphers}
use Rattle.message_ciphers.specs.Ciphers.{IsKey}
use Rattle.apdu.specs.declared.Header.{Header}
use Rattle.apdu.specs.declared.StatusWord.{StatusWord}
use Rattle.apdu.specs.Apdu.{header, status}
use Rattle.message_answer.specs.Message.{Response, CommandGiven}
use Rattle.message_answer.specs.Answer.{gave, Out}
use Rattle.message_protocol.specs.Command.{card_unwraps}
use Rattle.message_protocol.specs.Response.{host_unwraps}
use Rattle.message_protocol.specs.Transcript.{does}
use Rattle.message_protocol.specs.HonestDelivery.{InStep, Keyed}
use Rattle.message_protocol.proofs.Theorems.{demand2_commands, demand2_responses, demand2_openings}
use Rattle.demand_calls.specs.Calls.{host_keys, wraps_command, unwraps_command, wraps_response, unwraps_response, session, command, response, buffer_before, next}
use Rattle.demand_calls.specs.HonestDelivery.{CommandCarried, DeliversCommands, ResponseCarried, DeliversResponses, OpensInStep}
use Rattle.demand_calls.proofs.Told.{outcome, told}

pub delivers_commands : DeliversCommands
unfolding does
delivers_commands w u inStep counted permitted short wrapFits unwrapFits =
    let h = session (wraps_command Host w) in
    let c = session (unwraps_command Card u) in
    let d = demand2_commands h c (command w) (length (buffer_before (wraps_command Host w))) (length (buffer_before (unwraps_command Card u))) inStep w.met.1.1.1 counted permitted short w.met.1.1.0 wrapFits unwrapFits in
    let wrapped = sym (told (wraps_command Host w)) ∙ d.wraps in
    let unwrapped : CommandCarried w u d.field → outcome (unwraps_command Card u) ≡ record { answer = gave (record { payload = (command w).payload; le = (command w).header.le }); next = d.card } =
    λ k. sym (told (unwraps_command Card u)) ∙ ap₂ (λ (x : Header) (f : Bytes). card_unwraps aes_ciphers c x f (length (buffer_before (unwraps_command Card u)))) (λ i. header (k.ins i) (k.p1 i) (k.p2 i)) k.whole ∙ d.unwraps in
    record {
      field = d.field;
      wraps = ap (λ (o : Out Bytes). o.answer) wrapped;
      sized = d.sized;
      unwraps = λ k. ap (λ (o : Out CommandGiven). o.answer) (unwrapped k);
      again = λ k.
          subst (λ (s : Session). InStep Pending s (next (unwraps_command Card u))) (sym (ap (λ (o : Out Bytes). o.next) wrapped))
          (subst (λ (s : Session). InStep Pending d.host s) (sym (ap (λ (o : Out CommandGiven). o.next) (unwrapped k))) d.again);
      counted = ap (λ (o : Out Bytes). o.next.count) wrapped ∙ d.counted;
    }

-- the keys of the card's session are those of the host's
same_key : (s t : Suite) (j k : Bytes) → t ≡ s → k ≡ j → IsKey (key_in t k) → IsKey (key_in s j)
same_key s t j k e f key = subst IsKey (ap₂ (λ (u : Suite) (x : Bytes). key_in u x) e f) key

host_keyed : (h c : Session) → InStep Pending h c → Keyed c → Keyed h
host_keyed h c i k =
    record {
      enc = same_key h.suite c.suite h.sk_enc c.sk_enc i.suites i.encs k.enc;
      mac = same_key h.suite c.suite h.sk_mac c.sk_mac i.suites i.macs k.mac;
      rmac = same_key h.suite c.suite h.sk_rmac c.sk_rmac i.suites i.rmacs k.rmac;
    }

pub delivers_responses : DeliversResponses
unfolding does
delivers_responses w u inStep permitted short wrapFits unwrapFits =
    let h = session (unwraps_response Host u) in
    let c = session (wraps_response Card w) in
    let d = demand2_responses h c (response w) (length (buffer_before (wraps_response Card w))) (length (buffer_before (unwraps_response Host u))) inStep (host_keyed h c inStep w.met.1.1.1) permitted short w.met.1.1.0 wrapFits unwrapFits in
    let wrapped = sym (told (wraps_response Card w)) ∙ d.wraps in
    let unwrapped : ResponseCarried w u d.field → outcome (unwraps_response Host u) ≡ record { answer = gave (response w); next = d.host } =
    λ k. sym (told (unwraps_response Host u)) ∙ ap₂ (λ (x : StatusWord) (f : Bytes). host_unwraps aes_ciphers h x f (length (buffer_before (unwraps_response Host u)))) (λ i. status (k.sw1 i) (k.sw2 i)) k.whole ∙ d.unwraps in
    record {
      field = d.field;
      wraps = ap (λ (o : Out Bytes). o.answer) wrapped;
      sized = d.sized;
      unwraps = λ k. ap (λ (o : Out Response). o.answer) (unwrapped k);
      again = λ k.
          subst (λ (s : Session). InStep Ready (next (unwraps_response Host u)) s) (sym (ap (λ (o : Out Bytes). o.next) wrapped))
          (subst (λ (s : Session). InStep Ready s d.card) (sym (ap (λ (o : Out Response). o.next) (unwrapped k))) d.again);
      counted = λ k. ap (λ (o : Out Response). o.next.count) (unwrapped k) ∙ d.counted;
    }

pub opens_in_step : OpensInStep
opens_in_step h c hostOpened cardOpened same =
    let K = host_keys h in
    let host : opening Host h.args.0 K ≡ h.result = sym h.met.0 in
    let card : opening Card c.args.0 K ≡ c.result = ap (opening Card c.args.0) (sym same) ∙ sym c.met.0 in
    let d = demand2_openings h.args.0 c.args.0 K h.met.1 (ap (λ (o : Opened). o.answer) host ∙ hostOpened) (ap (λ (o : Opened). o.answer) card ∙ cardOpened) in (
      subst (λ (o : Opened). InStep Ready o.next c.result.next) host
          (subst (λ (o : Opened). InStep Ready (opening Host h.args.0 K).next o.next) card d.0),
      ap (λ (o : Opened). o.next.count) (sym host) ∙ d.1.1,
    )
