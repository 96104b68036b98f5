use Rattle.px_chain_laws.proofs.Reading.{seen_row, seen_rows}
use Rattle.px_chain_laws.proofs.laws.what_is_seen_is_the_view.Goals as goal

pub returns-clause-row : goal.returns-clause-row
returns-clause-row c = seen_row

pub returns-clause-rows : goal.returns-clause-rows
returns-clause-rows c = seen_rows
