use Rattle.std.proofs.Common.{◌≡◌, take}
use Rattle.px_laid.specs.Places.{laid_over, places}
use Rattle.px_laid.proofs.laid.Laid.lay.Given as goal

abbrev pub invariant-loop-cell : goal.invariant-loop-cell
invariant-loop-cell l = places l.laid ≡ laid_over (places l.fn.self) (take l.cell-index l.fn.change.cells)
