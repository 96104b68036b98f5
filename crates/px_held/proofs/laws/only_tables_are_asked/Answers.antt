use Rattle.px_held.proofs.Serving.{same_tables}
use Rattle.px_held.proofs.laws.only_tables_are_asked.Goals as goal

pub returns : goal.returns
returns c = same_tables
