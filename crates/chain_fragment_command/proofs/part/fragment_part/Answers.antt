-- `fragment_part` meets its contract: the fragment starts within the field, so the product is small.
use Prim.Native.Nat.{◌*◌}
use native.Mathlib.Omega.{arith}
use Rattle.chain_parts.proofs.PartEnds.{ends_within}
use Rattle.chain_fragment_command.proofs.Parts.{starts_in, number_in}
use Rattle.chain_fragment_command.proofs.part.fragment_part.Goals as goal

pub overflow_mul-start : goal.overflow_mul-start
overflow_mul-start c =
    let a = c.args in
    let h = c.requires in
    omega (arith, starts_in a.field.now a.size a.number h.1 h.2 _ c.fragment_size-most.ensures, number_in a.field.now a.size a.number h.1 h.2)

pub part_end-end-requires : goal.part_end-end-requires
part_end-end-requires c =
    let a = c.args in
    let h = c.requires in
    omega (arith, starts_in a.field.now a.size a.number h.1 h.2 _ c.fragment_size-most.ensures)

pub slice_bounds-result-end : goal.slice_bounds-result-end
slice_bounds-result-end c =
    let a = c.args in
    let h = c.requires in
    omega (arith, c.part_end-end.ensures, ends_within a.field.now (a.number * c.fragment_size-most.result) c.fragment_size-most.result (omega (arith, starts_in a.field.now a.size a.number h.1 h.2 _ c.fragment_size-most.ensures)))

pub overflow_add-result : goal.overflow_add-result
overflow_add-result c = let a = c.args in let h = c.requires in omega (arith, number_in a.field.now a.size a.number h.1 h.2)
