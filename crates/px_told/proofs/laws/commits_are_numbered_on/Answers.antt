use Rattle.px_told.proofs.Commits.{counts_before, counts_on, few_commits}
use Rattle.px_told.proofs.laws.commits_are_numbered_on.Goals as goal

pub returns-clause-joined : goal.returns-clause-joined
returns-clause-joined c = counts_on

pub returns-clause-front : goal.returns-clause-front
returns-clause-front c = counts_before

pub returns-clause-few : goal.returns-clause-few
returns-clause-few c = few_commits
