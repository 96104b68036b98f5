use Rattle.px_frame.proofs.Frames.{written_again}
use Rattle.px_frame.proofs.laws.written_is_read.Goals as goal

pub returns : goal.returns
returns c = written_again
