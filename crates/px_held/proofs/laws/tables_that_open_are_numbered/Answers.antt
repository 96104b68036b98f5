use Rattle.px_held.proofs.Numbered.{opened_numbered}
use Rattle.px_held.proofs.laws.tables_that_open_are_numbered.Goals as goal

pub returns : goal.returns
returns c = opened_numbered
