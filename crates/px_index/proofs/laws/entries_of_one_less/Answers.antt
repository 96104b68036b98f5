use Rattle.px_index.proofs.Owned.{one_less}
use Rattle.px_index.proofs.laws.entries_of_one_less.Goals as goal

pub returns : goal.returns
returns c = one_less
