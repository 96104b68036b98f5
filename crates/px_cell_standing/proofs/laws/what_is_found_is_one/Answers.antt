use Rattle.px_cell_standing.proofs.One.{one_found, one_store}
use Rattle.px_cell_standing.proofs.laws.what_is_found_is_one.Goals as goal

pub returns-clause-found : goal.returns-clause-found
returns-clause-found c = one_found c.what_opens_is_one.ensures.tables c.what_opens_is_one.ensures.layouts c.what_opens_is_one.ensures.shows c.rows_shown_are_one.ensures

pub returns-clause-stands : goal.returns-clause-stands
returns-clause-stands c = one_store c.what_opens_is_one.ensures.shows c.rows_shown_are_one.ensures
