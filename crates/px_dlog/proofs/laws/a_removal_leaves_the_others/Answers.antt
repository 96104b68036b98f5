use Rattle.px_dlog.proofs.Resting.{others_rested}
use Rattle.px_dlog.proofs.laws.a_removal_leaves_the_others.Goals as goal

pub returns : goal.returns
returns c = others_rested
