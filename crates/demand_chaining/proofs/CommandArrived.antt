-- A command carried in fragments arrives: its field comes back whole, so the card is handed what the host wrapped.
-- Assumes nothing.
use mathlib.Core.Path.{◌≡◌, refl, sym, ap, subst, ◌∙◌}
use mathlib.Core.List.{List, [], ◌∷◌, map}
use Prim.Native.Nat.{ℕ, suc, ◌*◌, ◌-◌}
use native.Mathlib.Omega.{arith}
use lib.ListN.{length, take}
use Rattle.octets.specs.Bytes.{Bytes, tabulate}
use Rattle.octets.specs.Write.{over}
use Rattle.message_answer.specs.Answer.{gave}
use Rattle.message_protocol.proofs.Delivered.{command_short, command_least}
use Rattle.apdu.specs.declared.Header.{Header}
use Rattle.apdu.specs.Apdu.{status}
use Rattle.chain_command.specs.Fragment.{fragment_size, fragment_count}
use Rattle.chain_command.specs.Chains.{answers_to}
use Rattle.std.specs.Prelude.{Result, Ok}
use Rattle.refusal.specs.declared.Refusal.{Refusal}
use Rattle.chain_command.specs.declared.CommandPart.{CommandPart}
use Rattle.chain_command.specs.declared.CommandPart.TheVariants.{More, Whole}
use Rattle.demand_calls.specs.Calls.{WrapsCommand, UnwrapsCommand, command}
use Rattle.demand_calls.specs.HonestDelivery.{CommandCarried}
use Rattle.demand_calls.proofs.Theorems.{demand2_commands}
use Rattle.demand_chaining.specs.Calls.{ReassemblesCommand}
use Rattle.demand_chaining.specs.CommandChaining.{buffer_after}
use Rattle.demand_chaining.specs.ChainedCommand.{field_in, field_of, header_of, last_answer, Unwraps, DeliversChainedCommands}
use Rattle.demand_chaining.proofs.LastOf.{last_of, last_appended, start}
use Rattle.demand_chaining.proofs.CommandChained.{reassembles_commands}

last_is : (a : Result CommandPart Refusal) (rs : List ReassemblesCommand) → last_answer a rs ≡ last_of a (map (λ r. r.result.answer) rs)
last_is a [] = refl
last_is a (r ∷ rs) = last_is r.result.answer rs

last_to : (a : Result CommandPart Refusal) (h : Header) (n size : ℕ) → last_of a (answers_to h n size) ≡ Ok (Whole n h)
unfolding answers_to
last_to a h n size =
    last_appended a (Ok (Whole n h)) (tabulate (fragment_count n size - 1) (λ k. Ok (More (suc k * fragment_size size) (status 0x90 0x00))))

carried : (w : WrapsCommand) (u : UnwrapsCommand) (field held out : Bytes) (a : Result CommandPart Refusal) → a ≡ Ok (Whole (length field) (header_of (command w).header))
    → out ≡ over held field → Unwraps a out u → CommandCarried w u field
carried w u field held out a e f t =
    let s = subst (λ (x : Result CommandPart Refusal). Unwraps x out u) e t in
    record { ins = s.0; p1 = s.1; p2 = s.2; whole = s.3 ∙ ap (take (length field)) f ∙ start held field }

pub delivers_chained_commands : DeliversChainedCommands
delivers_chained_commands w size held fs rs u step counted sendable c =
    let d = demand2_commands w u step counted sendable.permitted sendable.short sendable.wrap_room sendable.unwrap_room in
    let field : field_of w ≡ d.field = ap field_in d.wraps in
    let n = length (command w).payload in
    let size_is : length (field_of w) ≡ length d.field = ap length field in
    let h = header_of (command w).header in
    let r = reassembles_commands h (field_of w) size held fs rs
    (omega (arith, d.sized, command_least n (command w).header.le)) (omega (arith, d.sized, command_short n (command w).header.le sendable.short))
    c.small c.room c.fragmented c.reassembled in
    let k = subst (CommandCarried w u) field
    (carried w u (field_of w) held (buffer_after held rs) (last_answer (Ok (More 0 (status 0 0))) rs)
    (last_is _ rs ∙ ap (last_of (Ok (More 0 (status 0 0)))) r.answers ∙ last_to _ h (length (field_of w)) size)
    r.buffer c.unwrapped) in
    (r, record { sent = d.wraps ∙ ap gave (sym field); same_header = λ i. record { ins = k.ins i; p1 = k.p1 i; p2 = k.p2 i }; same = d.unwraps k; again = d.again k; counted = d.counted })
