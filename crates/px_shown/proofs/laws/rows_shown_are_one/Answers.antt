use Rattle.px_shown.proofs.Showing.{rows_one}
use Rattle.px_shown.proofs.laws.rows_shown_are_one.Goals as goal

pub returns : goal.returns
returns c = rows_one
