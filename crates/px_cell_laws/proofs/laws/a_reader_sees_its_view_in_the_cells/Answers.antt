use Rattle.px_cell_laws.proofs.Showing.{seen_in_cells, row_in_cells, no_row_in_cells}
use Rattle.px_cell_laws.proofs.laws.a_reader_sees_its_view_in_the_cells.Goals as goal

pub returns-clause-variation : goal.returns-clause-variation
returns-clause-variation c = seen_in_cells

pub returns-clause-row : goal.returns-clause-row
returns-clause-row c = row_in_cells

pub returns-clause-none : goal.returns-clause-none
returns-clause-none c = no_row_in_cells
