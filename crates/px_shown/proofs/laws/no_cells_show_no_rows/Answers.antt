use Rattle.px_shown.proofs.Showing.{none_shown}
use Rattle.px_shown.proofs.laws.no_cells_show_no_rows.Goals as goal

pub returns : goal.returns
returns c = none_shown
