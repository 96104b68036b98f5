use Rattle.px_engine.proofs.Stepping.{steps_commit, steps_keep_opening, steps_published}
use Rattle.px_engine.proofs.laws.what_was_published_stays.Goals as goal

pub returns-clause-published : goal.returns-clause-published
returns-clause-published c = steps_published

pub returns-clause-opening : goal.returns-clause-opening
returns-clause-opening c = steps_keep_opening

pub returns-clause-commits : goal.returns-clause-commits
returns-clause-commits c = steps_commit
