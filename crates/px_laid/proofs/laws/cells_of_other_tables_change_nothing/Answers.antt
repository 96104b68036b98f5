use Rattle.px_laid.proofs.Says.{says_still}
use Rattle.px_laid.proofs.laws.cells_of_other_tables_change_nothing.Goals as goal

pub returns : goal.returns
returns c = says_still
