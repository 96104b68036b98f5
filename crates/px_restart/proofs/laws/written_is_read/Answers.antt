use Rattle.px_restart.proofs.Restarts.{restart_then}
use Rattle.px_restart.proofs.laws.written_is_read.Goals as goal

pub returns : goal.returns
returns c = restart_then
