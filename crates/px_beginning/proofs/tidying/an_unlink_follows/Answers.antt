use Rattle.px_beginning.proofs.Unlinks.{unlink_follows}
use Rattle.px_beginning.proofs.tidying.an_unlink_follows.Goals as goal

pub returns : goal.returns
returns c = unlink_follows c.fronts_hold.ensures c.what_a_frame_may_hold.ensures
