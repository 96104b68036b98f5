use Rattle.px_dlog.proofs.Parts.{one_text}
use Rattle.px_dlog.proofs.laws.one_reading.Goals as goal

pub returns : goal.returns
returns c = one_text
