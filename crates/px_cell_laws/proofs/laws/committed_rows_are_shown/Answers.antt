use Rattle.px_cell_laws.proofs.Showing.{committed_shown}
use Rattle.px_cell_laws.proofs.laws.committed_rows_are_shown.Goals as goal

pub returns : goal.returns
returns c = committed_shown
