use Rattle.px_dlog.proofs.Parts.{written_again}
use Rattle.px_dlog.proofs.laws.written_is_read.Goals as goal

pub returns : goal.returns
returns c = written_again
