use Rattle.px_shown.proofs.FirstRow.{first_row}
use Rattle.px_shown.proofs.laws.a_first_row_is_shown.Goals as goal

pub returns : goal.returns
returns c = first_row
