use Rattle.px_index.proofs.Owned.{next_version}
use Rattle.px_index.proofs.laws.a_walk_meets_the_versions.Goals as goal

pub returns : goal.returns
returns c = next_version
