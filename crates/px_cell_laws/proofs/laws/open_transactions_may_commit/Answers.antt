use Rattle.px_cell_laws.proofs.Beginning.{open_may_commit, unbegun_may_commit}
use Rattle.px_cell_laws.proofs.laws.open_transactions_may_commit.Goals as goal

pub returns-clause-begun : goal.returns-clause-begun
returns-clause-begun c = open_may_commit

pub returns-clause-unbegun : goal.returns-clause-unbegun
returns-clause-unbegun c = unbegun_may_commit
