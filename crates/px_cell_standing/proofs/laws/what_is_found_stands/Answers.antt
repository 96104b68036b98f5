use Rattle.px_cell_standing.proofs.Finding.{base_stored, found_stands, stands_found}
use Rattle.px_cell_standing.proofs.laws.what_is_found_stands.Goals as goal

pub returns-clause-stands : goal.returns-clause-stands
returns-clause-stands c = found_stands

pub returns-clause-numbers : goal.returns-clause-numbers
returns-clause-numbers c = base_stored

pub returns-clause-finds : goal.returns-clause-finds
returns-clause-finds c = stands_found
