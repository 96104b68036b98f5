use Rattle.px_active.proofs.Calls.{hold_leaves, reading_leaves, refused_leaves}
use Rattle.px_active.proofs.laws.reads_leave_what_is_active.Goals as goal

pub returns-clause-refused : goal.returns-clause-refused
returns-clause-refused c = refused_leaves

pub returns-clause-reads : goal.returns-clause-reads
returns-clause-reads c = reading_leaves

pub returns-clause-hold : goal.returns-clause-hold
returns-clause-hold c = hold_leaves
