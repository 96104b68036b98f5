use Rattle.px_cell_standing.proofs.Resting.{crash_settles, rest_settles}
use Rattle.px_cell_standing.proofs.laws.what_a_crash_leaves_is_settled.Goals as goal

pub returns-clause-rests : goal.returns-clause-rests
returns-clause-rests c = rest_settles

pub returns-clause-crashed : goal.returns-clause-crashed
returns-clause-crashed c = crash_settles
