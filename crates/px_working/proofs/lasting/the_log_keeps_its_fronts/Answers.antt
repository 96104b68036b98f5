use Rattle.px_working.proofs.Log.{log_kept}
use Rattle.px_working.proofs.lasting.the_log_keeps_its_fronts.Goals as goal

pub returns : goal.returns
returns c = log_kept
