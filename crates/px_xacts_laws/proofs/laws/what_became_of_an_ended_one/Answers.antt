use Rattle.px_xacts_laws.proofs.Marking.{ended_mirrors}
use Rattle.px_xacts_laws.proofs.laws.what_became_of_an_ended_one.Goals as goal

pub returns : goal.returns
returns c = ended_mirrors
