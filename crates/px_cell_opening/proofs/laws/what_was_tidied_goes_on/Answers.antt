use Rattle.px_cell_opening.proofs.Beginning.{tidied_goes_on}
use Rattle.px_cell_opening.proofs.laws.what_was_tidied_goes_on.Goals as goal

pub returns : goal.returns
returns c = tidied_goes_on c.what_was_tidied_works.ensures
