use Rattle.px_change.proofs.Changes.{one_change}
use Rattle.px_change.proofs.laws.one_reading.Goals as goal

pub returns : goal.returns
returns c = one_change
