use Rattle.px_index.proofs.Owned.{one_more}
use Rattle.px_index.proofs.laws.entries_of_one_more.Goals as goal

pub returns : goal.returns
returns c = one_more
