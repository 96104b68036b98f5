use Rattle.px_cell_laws.proofs.Calling.{refused_leaves, reads_leave, empty_end_leaves}
use Rattle.px_cell_laws.proofs.laws.other_calls_leave_the_cells.Goals as goal

pub returns-clause-refused : goal.returns-clause-refused
returns-clause-refused c = refused_leaves

pub returns-clause-reads : goal.returns-clause-reads
returns-clause-reads c = reads_leave

pub returns-clause-wrote_nothing : goal.returns-clause-wrote_nothing
returns-clause-wrote_nothing c = empty_end_leaves
