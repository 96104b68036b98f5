use Rattle.px_cell_laws.proofs.Ending.{commit_follows, commit_holds, rollback_follows, rollback_holds}
use Rattle.px_cell_laws.proofs.laws.an_end_is_a_step.Goals as goal

pub returns-clause-commit : goal.returns-clause-commit
returns-clause-commit c = commit_follows

pub returns-clause-committed : goal.returns-clause-committed
returns-clause-committed c = commit_holds

pub returns-clause-rollback : goal.returns-clause-rollback
returns-clause-rollback c = rollback_follows

pub returns-clause-rolled_back : goal.returns-clause-rolled_back
returns-clause-rolled_back c = rollback_holds
