use Rattle.px_working.proofs.Stepping.{step_lasts}
use Rattle.px_working.proofs.lasting.a_step_lasts.Goals as goal

pub returns : goal.returns
returns c = step_lasts c.a_life_grows.ensures c.done_goes_on.ensures c.commits_go_on.ensures
