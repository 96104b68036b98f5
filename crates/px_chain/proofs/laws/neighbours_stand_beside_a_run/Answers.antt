use Rattle.px_chain.proofs.Standing.{near_run}
use Rattle.px_chain.proofs.laws.neighbours_stand_beside_a_run.Goals as goal

pub returns : goal.returns
returns c = near_run
