-- Honest exchanges succeed, one after another: the sessions stay in step, and the count is the number of those before.
-- Assumes nothing.
use mathlib.Core.Path.{◌≡◌, sym, ap, subst}
use mathlib.Core.List.{List, [], ◌∷◌}
use Prim.Native.Nat.{◌+◌, ◌≤◌}
use native.Mathlib.Omega.{arith}
use lib.ListN.{length}
use Rattle.session.specs.declared.Side.TheVariants.{Host, Card}
use Rattle.session.specs.declared.Phase.{Phase}
use Rattle.session.specs.declared.Phase.TheVariants.{Ready, Pending}
use Rattle.session.specs.declared.Session.{Session}
use Rattle.message_answer.specs.Message.{command_limit}
use Rattle.message_protocol.specs.HonestDelivery.{InStep}
use Rattle.demand_calls.specs.Calls.{wraps_command, wraps_response, unwraps_response, session, next}
use Rattle.demand_calls.proofs.Theorems.{demand2_openings}
use Rattle.demand_chaining.specs.HonestExchanges.{Exchange, AllHonest, AllSucceed, HonestExchanges}
use Rattle.demand_chaining.proofs.CommandArrived.{delivers_chained_commands}
use Rattle.demand_chaining.proofs.ResponseArrived.{delivers_chained_responses}

same_step : (phase : Phase) (h h' c c' : Session) → h' ≡ h → c' ≡ c → InStep phase h c → InStep phase h' c'
same_step phase h h' c c' e f s = subst (λ (x : Session). InStep phase x c') (sym e) (subst (λ (x : Session). InStep phase h x) (sym f) s)

count_of : (s t : Session) → s ≡ t → s.count ≡ t.count
count_of s t e = ap (λ (x : Session). x.count) e

go : (h c : Session) (es : List Exchange) → InStep Ready h c → h.count + length es ≤ command_limit → AllHonest h c es → AllSucceed es
go h c [] step few all = tt
go h c (e ∷ es) step few all =
    let g = all.0 in
    let counted = count_of (session (wraps_command Host e.wrap)) h g.host in
    let a = delivers_chained_commands e.wrap e.size e.card_held e.fragments e.reassembled e.unwrap
    (same_step Ready h _ c _ g.host g.card step) (omega arith) g.command_sendable g.command_carried in
    let b = delivers_chained_responses e.wrap_response e.host_held e.response_fragments e.response_reassembled e.unwrap_response
    (same_step Pending _ _ _ _ g.host_then g.card_then a.1.again) g.response_sendable g.response_carried in
    let then-counted = count_of (session (unwraps_response Host e.unwrap_response)) (next (wraps_command Host e.wrap)) g.host_then in (
      record { command_whole = a.0; command_arrives = a.1; response_whole = b.0; response_arrives = b.1 },
      go (next (unwraps_response Host e.unwrap_response)) (next (wraps_response Card e.wrap_response)) es b.1.again (omega (arith, a.1.counted, b.1.counted)) all.1,
    )

pub honest_exchanges : HonestExchanges
honest_exchanges h c hostOpened cardOpened same es few all =
    let o = demand2_openings h c hostOpened cardOpened same in
    go h.result.next c.result.next es o.0 (omega (arith, o.1)) all
