use Rattle.px_told.proofs.Changes.{past_untold}
use Rattle.px_told.proofs.Rows.{no_changes, over_none, rows_second}
use Rattle.px_told.proofs.laws.rows_after_runs.Goals as goal

pub returns-clause-none : goal.returns-clause-none
returns-clause-none c = no_changes

pub returns-clause-first : goal.returns-clause-first
returns-clause-first c = over_none

pub returns-clause-second : goal.returns-clause-second
returns-clause-second c = rows_second

pub returns-clause-past_all : goal.returns-clause-past_all
returns-clause-past_all c = past_untold
