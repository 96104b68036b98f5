use Rattle.px_held.proofs.Serving.{one_store}
use Rattle.px_held.proofs.laws.what_is_served_is_one.Goals as goal

pub returns : goal.returns
returns c = one_store
