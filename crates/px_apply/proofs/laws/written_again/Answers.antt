use Rattle.px_apply.proofs.Laid.{again}
use Rattle.px_apply.proofs.laws.written_again.Goals as goal

pub returns : goal.returns
returns c = again
