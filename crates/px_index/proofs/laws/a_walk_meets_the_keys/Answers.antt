use Rattle.px_index.proofs.Owned.{next_version_key}
use Rattle.px_index.proofs.laws.a_walk_meets_the_keys.Goals as goal

pub returns : goal.returns
returns c = next_version_key
