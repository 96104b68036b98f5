use Rattle.px_restart.proofs.Restarts.{one_restart}
use Rattle.px_restart.proofs.laws.one_reading.Goals as goal

pub returns : goal.returns
returns c = one_restart
