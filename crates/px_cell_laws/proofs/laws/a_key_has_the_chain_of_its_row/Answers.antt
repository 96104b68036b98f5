use Rattle.px_cell_laws.proofs.Chained.{chain_of_row, no_row_no_chain}
use Rattle.px_cell_laws.proofs.laws.a_key_has_the_chain_of_its_row.Goals as goal

pub returns-clause-row : goal.returns-clause-row
returns-clause-row c = chain_of_row

pub returns-clause-none : goal.returns-clause-none
returns-clause-none c = no_row_no_chain
