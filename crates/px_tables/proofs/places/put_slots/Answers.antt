use Rattle.std.proofs.Common.{◌≡◌, ◌∷◌, ◌<◌, ℕ, List, length, sym, ap, subst, ◌∙◌}
use Rattle.std.specs.Prelude.{All, slice_set}
use Rattle.std.specs.Vec.Iter.{into_iter_items}
use Rattle.std.proofs.lemmas.List.{length-set}
use Rattle.std.proofs.lemmas.List.Elements.{All-tail}
use Rattle.px_cells.specs.declared.slot.Slot.{Slot}
use Rattle.px_chain.specs.declared.chain.Linked.{Linked}
use Rattle.px_tables.specs.Unlinking.{with_slots}
use Rattle.px_tables.proofs.places.put_slots.Goals as goal

-- once the first slot is put, the others still stand within, and putting them gives what putting all gives
put_first : (slots : List Slot) (linked : Linked) (all rest : List Linked) → all ≡ linked ∷ rest → All (λ m. m.number < length slots) all
    → let put = slice_set slots linked.number linked.slot in (with_slots put rest ≡ with_slots slots all) × All (λ m. m.number < length put) rest
put_first slots linked all rest is within = (
  ap (with_slots slots) (sym is),
  subst (λ (end : ℕ). All (λ (m : Linked). m.number < end) rest) (sym (length-set slots linked.number linked.slot))
      (All-tail (λ (m : Linked). m.number < length slots) linked rest (subst (λ (l : List Linked). All (λ (m : Linked). m.number < length slots) l) is within)),
)

-- the slot that was there goes, whether its bytes lie in place or not
pub loop-linked-preserved : goal.loop-linked-preserved
loop-linked-preserved c =
    let put = put_first c.loop-linked.slots.items c.in-Some.linked _ (into_iter_items c.next.new.self) c.in-Some.ensures.steps.0 c.loop-linked.invariant.within in
    record { slots = put.0 ∙ c.loop-linked.invariant.slots; within = put.1 }

pub loop-linked-preserved-in-Some : goal.loop-linked-preserved-in-Some
loop-linked-preserved-in-Some c =
    let put = put_first c.loop-linked.slots.items c.in-Some.linked _ (into_iter_items c.next.new.self) c.in-Some.ensures.steps.0 c.loop-linked.invariant.within in
    record { slots = put.0 ∙ c.loop-linked.invariant.slots; within = put.1 }
