use Rattle.px_life.proofs.Done.{opening_knows}
use Rattle.px_life.proofs.laws.an_opening_knows_who_is_done.Goals as goal

pub returns : goal.returns
returns c = opening_knows
