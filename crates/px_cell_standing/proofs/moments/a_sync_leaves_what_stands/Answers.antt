use Rattle.px_cell_standing.proofs.Syncing.{sync_settles, syncing_stands}
use Rattle.px_cell_standing.proofs.moments.a_sync_leaves_what_stands.Goals as goal

pub returns-clause-moments : goal.returns-clause-moments
returns-clause-moments c = syncing_stands {T = Unit {0}}

pub returns-clause-settled : goal.returns-clause-settled
returns-clause-settled c = sync_settles {T = Unit {0}}
