use Rattle.px_index.proofs.Owned as owned
use Rattle.px_index.proofs.laws.entries_of_none.Goals as goal

pub returns : goal.returns
returns c = owned.none
