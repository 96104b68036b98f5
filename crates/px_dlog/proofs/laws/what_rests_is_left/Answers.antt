use Rattle.px_dlog.proofs.Resting.{rests_in_image}
use Rattle.px_dlog.proofs.laws.what_rests_is_left.Goals as goal

pub returns : goal.returns
returns c = rests_in_image
