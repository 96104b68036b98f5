use Rattle.px_told.proofs.Changes.{greatest-append, writes_of-append}
use Rattle.px_told.proofs.Commits.{last_commit-append}
use Rattle.px_told.proofs.Rows.{rows_more}
use Rattle.px_told.proofs.laws.longer_lists.Goals as goal

pub returns-clause-writes : goal.returns-clause-writes
returns-clause-writes c = writes_of-append

pub returns-clause-rows : goal.returns-clause-rows
returns-clause-rows c = rows_more

pub returns-clause-last : goal.returns-clause-last
returns-clause-last c = last_commit-append

pub returns-clause-greatest : goal.returns-clause-greatest
returns-clause-greatest c = greatest-append
