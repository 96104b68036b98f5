use Rattle.px_life.specs.Life.{end_of, store_at}
use Rattle.px_life.proofs.Commits.{commits_go_on}
use Rattle.px_life.proofs.laws.commits_go_on.Goals as goal

pub returns : goal.returns
returns c short life restart step change = commits_go_on short life restart (store_at life (end_of life)) step change
