use Rattle.std.proofs.Common.{◌≡◌, ◌+◌, List, length, sym, ap, subst, arith}
use Rattle.px_cells.specs.declared.slot.Slot.{Slot}
use Rattle.px_tables.specs.Held.{HasLayout, Held}
use Rattle.px_tables.specs.Walked.{Ends}
use Rattle.px_tables.proofs.Freed.{free_list_ends, left_counted, left_few}
use Rattle.px_tables.proofs.table.Table.version_count.Goals as goal

pub invariant_of-free : goal.invariant_of-free
invariant_of-free c =
    subst (λ (l : List Slot). Ends l c.self.inside.header.free_slot) (sym c.as_slice.ensures.value) (free_list_ends c.self.invariant)

pub overflow_sub-in_chains : goal.overflow_sub-in_chains
overflow_sub-in_chains c =
    let few = left_few c.as_slice.result.now c.into_iter-iterator.result c.self.invariant (c.as_slice.ensures.value, c.into_iter-iterator.ensures.into_iter_gives) in
    omega (arith, few, c.loop.invariant, ap length c.in-Some.ensures.steps)

pub loop-preserved : goal.loop-preserved
loop-preserved c =
    let few = left_few c.as_slice.result.now c.into_iter-iterator.result c.self.invariant (c.as_slice.ensures.value, c.into_iter-iterator.ensures.into_iter_gives) in
    omega (arith, few, c.loop.invariant, ap length c.in-Some.ensures.steps)

pub returns : goal.returns
returns c = λ layout sound.
    subst (λ (h : Held). HasLayout h.cells layout → h.cells.header.slots ≡ length layout.free_slots + c.loop.in_chains) c.self.view_is
    (λ its.
    let all = left_counted c.as_slice.result.now c.into_iter-iterator.result layout c.self.invariant
    (c.as_slice.ensures.value, c.into_iter-iterator.ensures.into_iter_gives) its in
    omega (arith, all, c.loop.invariant, ap length c.in-None.ensures.steps.0)) sound
