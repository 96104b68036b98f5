use Rattle.px_working.proofs.Fresh.{found_lasts}
use Rattle.px_working.proofs.beginning.what_is_found_lasts.Goals as goal

pub returns : goal.returns
returns c = found_lasts
