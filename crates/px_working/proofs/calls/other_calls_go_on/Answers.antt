use Rattle.px_working.proofs.Going.{empty_ends_last, empty_ends_work, reads_last, reads_work, refused_lasts, refused_works}
use Rattle.px_working.proofs.calls.other_calls_go_on.Goals as goal

pub returns-clause-refused : goal.returns-clause-refused
returns-clause-refused c = refused_works

pub returns-clause-reads : goal.returns-clause-reads
returns-clause-reads c = reads_work c.other_calls_leave_the_cells.ensures.reads c.machines_are_kept.ensures.call

pub returns-clause-wrote_nothing : goal.returns-clause-wrote_nothing
returns-clause-wrote_nothing c = empty_ends_work c.other_calls_leave_the_cells.ensures.wrote_nothing c.machines_are_kept.ensures.call

pub returns-clause-refused_lasts : goal.returns-clause-refused_lasts
returns-clause-refused_lasts c = refused_lasts

pub returns-clause-reads_last : goal.returns-clause-reads_last
returns-clause-reads_last c = reads_last

pub returns-clause-wrote_nothing_lasts : goal.returns-clause-wrote_nothing_lasts
returns-clause-wrote_nothing_lasts c = empty_ends_last
