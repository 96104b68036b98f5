use Rattle.std.proofs.Common.{◌≡◌, ◌<◌, length}
use Rattle.std.specs.Prelude.{All}
use Rattle.std.specs.Vec.Iter.{into_iter_items}
use Rattle.px_tables.specs.Unlinking.{with_slots}
use Rattle.px_tables.proofs.places.put_slots.Given as goal

abbrev pub invariant-loop-linked : goal.invariant-loop-linked
invariant-loop-linked l = record {
  slots : with_slots l.slots.items (into_iter_items l.linked-iterator) ≡ with_slots l.initial.slots.items (into_iter_items l.initial.linked-iterator);
  within : All (λ linked. linked.number < length l.slots.items) (into_iter_items l.linked-iterator);
}
