use Rattle.std.proofs.Common.{◌≡◌, length}
use Rattle.px_laid.specs.Places.{places}
use Rattle.px_laid.specs.Whole.{AllFrom, IsLaidSlot}
use Rattle.px_laid.proofs.laid.Laid.all_slots.Given as goal

abbrev pub invariant-loop-index : goal.invariant-loop-index
invariant-loop-index l = record {
  long : length l.slots.items ≡ l.index;
  each : AllFrom (IsLaidSlot l.short (places l.self) l.table) 1 l.slots.items;
}
