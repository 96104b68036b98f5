use Rattle.px_life.proofs.Done.{done_goes_on}
use Rattle.px_life.proofs.laws.done_goes_on.Goals as goal

pub returns : goal.returns
returns c parts short tables next rows life restart step change is = done_goes_on parts short tables next rows life step change is restart
