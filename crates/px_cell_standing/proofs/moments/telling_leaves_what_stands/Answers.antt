use Rattle.px_cell_standing.proofs.Syncing.{settled_alike, stand_alike, store_alike}
use Rattle.px_cell_standing.proofs.moments.telling_leaves_what_stands.Goals as goal

pub returns-clause-images : goal.returns-clause-images
returns-clause-images c = stand_alike

pub returns-clause-settled : goal.returns-clause-settled
returns-clause-settled c = settled_alike

pub returns-clause-store : goal.returns-clause-store
returns-clause-store c = store_alike
