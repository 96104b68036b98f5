use Rattle.px_held.proofs.Committed.{committed_in_cells}
use Rattle.px_held.proofs.laws.the_newest_commit_stands_in_the_cells.Goals as goal

pub returns : goal.returns
returns c = committed_in_cells
