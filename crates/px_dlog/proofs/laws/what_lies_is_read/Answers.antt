use Rattle.px_dlog.proofs.Resting.{lies_read}
use Rattle.px_dlog.proofs.laws.what_lies_is_read.Goals as goal

pub returns : goal.returns
returns c = lies_read
