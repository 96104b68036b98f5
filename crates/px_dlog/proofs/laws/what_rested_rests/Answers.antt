use Rattle.px_dlog.proofs.Resting.{rested_rests}
use Rattle.px_dlog.proofs.laws.what_rested_rests.Goals as goal

pub returns : goal.returns
returns c = rested_rests
