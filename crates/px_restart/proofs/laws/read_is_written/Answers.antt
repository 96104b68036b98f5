use Rattle.std.proofs.Common.{drop}
use Rattle.px_restart.specs.declared.restart.TheConstants.{RESTART_SIZE}
use Rattle.px_restart.proofs.laws.read_is_written.Goals as goal

pub returns : goal.returns
returns c = λ bytes restart at. (drop RESTART_SIZE bytes, at.front)
