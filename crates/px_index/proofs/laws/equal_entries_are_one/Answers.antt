use Rattle.px_index.proofs.Orders.{same_exact}
use Rattle.px_index.proofs.laws.equal_entries_are_one.Goals as goal

pub returns : goal.returns
returns c = same_exact
