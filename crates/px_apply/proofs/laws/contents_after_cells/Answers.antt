use Rattle.px_apply.proofs.Laid.{elsewhere, decided, size, unless}
use Rattle.px_apply.proofs.laws.contents_after_cells.Goals as goal

pub returns : goal.returns
returns c = record { elsewhere = elsewhere; decided = decided; size = size; unless = unless }
