use Rattle.px_told.proofs.Commits.{kept_has_all}
use Rattle.px_told.proofs.laws.a_front_with_each_commit_has_all.Goals as goal

pub returns : goal.returns
returns c = kept_has_all
