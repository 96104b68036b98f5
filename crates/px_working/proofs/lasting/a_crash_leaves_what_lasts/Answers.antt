use Rattle.px_working.proofs.Moments.{crash_leaves}
use Rattle.px_working.proofs.lasting.a_crash_leaves_what_lasts.Goals as goal

pub returns : goal.returns
returns c = crash_leaves c.what_is_reachable_stands.ensures
