use Rattle.std.proofs.Common.{◌≡◌, length}
use Rattle.px_laid.specs.Places.{places}
use Rattle.px_laid.specs.Whole.{AllFrom, IsLaidPointer}
use Rattle.px_laid.proofs.laid.Laid.all_pointers.Given as goal

abbrev pub invariant-loop-index : goal.invariant-loop-index
invariant-loop-index l = record {
  long : length l.pointers.items ≡ l.index;
  each : AllFrom (IsLaidPointer (places l.self) l.table) 1 l.pointers.items;
}
