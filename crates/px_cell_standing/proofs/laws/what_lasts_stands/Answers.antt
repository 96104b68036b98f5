use Rattle.px_cell_standing.proofs.Beginning.{all_stands, between_stands, opening_stands}
use Rattle.px_cell_standing.proofs.laws.what_lasts_stands.Goals as goal

pub returns-clause-between : goal.returns-clause-between
returns-clause-between c = between_stands c.a_crash_leaves_what_lasts.ensures

pub returns-clause-all : goal.returns-clause-all
returns-clause-all c = all_stands c.a_crash_leaves_what_lasts.ensures

pub returns-clause-found : goal.returns-clause-found
returns-clause-found c = opening_stands c.a_crash_leaves_what_lasts.ensures
