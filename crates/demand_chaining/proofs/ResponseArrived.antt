-- A response carried in fragments arrives: its field comes back whole, so the host is handed what the card wrapped.
-- Assumes nothing.
use mathlib.Core.Path.{◌≡◌, refl, sym, ap, subst, ◌∙◌}
use mathlib.Core.List.{List, [], ◌∷◌, map}
use Prim.Native.Nat.{ℕ, suc, ◌*◌, ◌-◌}
use native.Mathlib.Omega.{arith}
use lib.ListN.{length, take}
use Rattle.octets.specs.Bytes.{Bytes, tabulate}
use Rattle.octets.specs.Write.{over}
use Rattle.apdu.specs.declared.StatusWord.{StatusWord}
use Rattle.message_answer.specs.Answer.{gave}
use Rattle.message_protocol.proofs.Delivered.{response_short, response_least}
use Rattle.chain_parts.specs.Parts.{ceiling}
use Rattle.chain_response.specs.Fragment.{announced}
use Rattle.chain_response.specs.Chains.{answers_to}
use Rattle.std.specs.Prelude.{Result, Ok}
use Rattle.refusal.specs.declared.Refusal.{Refusal}
use Rattle.chain_response.specs.declared.ResponsePart.{ResponsePart}
use Rattle.chain_response.specs.declared.ResponsePart.TheVariants.{More, Whole}
use Rattle.demand_calls.specs.Calls.{WrapsResponse, UnwrapsResponse, response}
use Rattle.demand_calls.specs.HonestDelivery.{ResponseCarried}
use Rattle.demand_calls.proofs.Theorems.{demand2_responses}
use Rattle.demand_chaining.specs.Calls.{ReassemblesResponse}
use Rattle.demand_chaining.specs.ResponseChaining.{buffer_after}
use Rattle.demand_chaining.specs.ChainedCommand.{field_in}
use Rattle.demand_chaining.specs.ChainedResponse.{field_of, last_answer, Unwraps, DeliversChainedResponses}
use Rattle.demand_chaining.proofs.LastOf.{last_of, last_appended, start}
use Rattle.demand_chaining.proofs.ResponseChained.{reassembles_responses}

last_is : (a : Result ResponsePart Refusal) (rs : List ReassemblesResponse) → last_answer a rs ≡ last_of a (map (λ r. r.result.answer) rs)
last_is a [] = refl
last_is a (r ∷ rs) = last_is r.result.answer rs

last_to : (a : Result ResponsePart Refusal) (sw : StatusWord) (n : ℕ) → last_of a (answers_to sw n) ≡ Ok (Whole n sw)
unfolding answers_to
last_to a sw n =
    last_appended a (Ok (Whole n sw)) (tabulate (ceiling n 256 - 1) (λ k. Ok (More (suc k * 256) (announced (n - suc k * 256)))))

carried : (w : WrapsResponse) (u : UnwrapsResponse) (field held out : Bytes) (a : Result ResponsePart Refusal)
    → a ≡ Ok (Whole (length field) (response w).header) → out ≡ over held field → Unwraps a out u → ResponseCarried w u field
carried w u field held out a e f t =
    let s = subst (λ (x : Result ResponsePart Refusal). Unwraps x out u) e t in
    record { sw1 = s.0; sw2 = s.1; whole = s.2 ∙ ap (take (length field)) f ∙ start held field }

pub delivers_chained_responses : DeliversChainedResponses
delivers_chained_responses w held fs rs u step sendable c =
    let d = demand2_responses w u step sendable.permitted sendable.short sendable.wrap_room sendable.unwrap_room in
    let field : field_of w ≡ d.field = ap field_in d.wraps in
    let n = length (response w).payload in
    let size_is : length (field_of w) ≡ length d.field = ap length field in
    let sw = (response w).header in
    let r = reassembles_responses sw (field_of w) held fs rs sendable.permitted
    (omega (arith, d.sized, response_least n)) (omega (arith, d.sized, response_short n sendable.short)) c.room c.count c.reassembled in
    let k = subst (ResponseCarried w u) field
    (carried w u (field_of w) held (buffer_after held rs) (last_answer (Ok (More 0 0)) rs)
    (last_is _ rs ∙ ap (last_of (Ok (More 0 0))) r.answers ∙ last_to _ sw (length (field_of w)))
    r.buffer c.unwrapped) in
    (r, record { sent = d.wraps ∙ ap gave (sym field); same = d.unwraps k; again = d.again k; counted = d.counted k })
