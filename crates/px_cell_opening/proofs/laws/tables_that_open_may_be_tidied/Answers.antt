use Rattle.px_cell_opening.proofs.Beginning.{done_there}
use Rattle.px_cell_opening.proofs.Tables.{has_store}
use Rattle.px_cell_opening.proofs.laws.tables_that_open_may_be_tidied.Goals as goal

pub returns-clause-store : goal.returns-clause-store
returns-clause-store c = λ restart found site can has. has_store restart found has site can

pub returns-clause-done : goal.returns-clause-done
returns-clause-done c = λ restart found can has. done_there restart found has can
