use Rattle.px_held.proofs.Serving.{committed, rolled_back}
use Rattle.px_held.proofs.laws.an_end_changes_no_table.Goals as goal

pub returns-clause-commit : goal.returns-clause-commit
returns-clause-commit c = λ site held store xn number. committed site held store xn

pub returns-clause-rollback : goal.returns-clause-rollback
returns-clause-rollback c = rolled_back
