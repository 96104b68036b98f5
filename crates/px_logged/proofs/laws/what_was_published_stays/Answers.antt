use Rattle.px_logged.proofs.Grown.{published_stays, opening_stays, commits_rise, others_keep_committed, silent_commit_keeps_committed}
use Rattle.px_logged.proofs.laws.what_was_published_stays.Goals as goal

pub returns-clause-published : goal.returns-clause-published
returns-clause-published c = published_stays

pub returns-clause-opening : goal.returns-clause-opening
returns-clause-opening c = opening_stays

pub returns-clause-commits : goal.returns-clause-commits
returns-clause-commits c = commits_rise

pub returns-clause-others : goal.returns-clause-others
returns-clause-others c = others_keep_committed

pub returns-clause-silent : goal.returns-clause-silent
returns-clause-silent c = silent_commit_keeps_committed
