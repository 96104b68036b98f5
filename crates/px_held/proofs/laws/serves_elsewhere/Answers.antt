use Rattle.px_held.proofs.Serving.{elsewhere}
use Rattle.px_held.proofs.laws.serves_elsewhere.Goals as goal

pub returns : goal.returns
returns c = elsewhere
