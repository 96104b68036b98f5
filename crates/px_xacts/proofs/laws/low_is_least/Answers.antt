use Rattle.px_xacts.proofs.Low.{low_below_open, low_below_undone}
use Rattle.px_xacts.proofs.laws.low_is_least.Goals as goal

pub returns : goal.returns
returns c = record { of_open = low_below_open; of_undone = low_below_undone }
