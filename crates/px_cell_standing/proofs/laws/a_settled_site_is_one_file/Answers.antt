use Rattle.px_cell_standing.proofs.Beginning.{settled_empty}
use Rattle.px_cell_standing.proofs.Resting.{image_is_one, settled_alone}
use Rattle.px_cell_standing.proofs.laws.a_settled_site_is_one_file.Goals as goal

pub returns-clause-alone : goal.returns-clause-alone
returns-clause-alone c = settled_alone

pub returns-clause-found : goal.returns-clause-found
returns-clause-found c = λ s found is. record { is_found = is.is_found; alone = settled_alone s found.commits found.rows is.settled }

pub returns-clause-content : goal.returns-clause-content
returns-clause-content c = λ s commits rows settled. image_is_one s.now s.content settled.alone settled.plain

pub returns-clause-no_cells : goal.returns-clause-no_cells
returns-clause-no_cells c = settled_empty
