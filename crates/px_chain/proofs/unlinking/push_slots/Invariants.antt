use Rattle.std.proofs.Common.{◌≡◌, ◌++◌, map, take}
use Rattle.px_chain.specs.Cells.{cell_of}
use Rattle.px_chain.specs.Links.{content_of}
use Rattle.px_chain.proofs.unlinking.push_slots.Given as goal

abbrev pub invariant-loop-linked : goal.invariant-loop-linked
invariant-loop-linked l = l.cells ≡ l.initial.cells ++ map (cell_of l.table l.short) (map content_of (take l.linked-index l.slots))
