use Rattle.px_history.proofs.Holding.{change_held}
use Rattle.px_history.proofs.laws.what_a_frame_may_hold.Goals as goal

pub returns : goal.returns
returns c = change_held
