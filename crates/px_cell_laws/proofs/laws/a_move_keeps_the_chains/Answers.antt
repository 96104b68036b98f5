use Rattle.px_cell_laws.proofs.Moved.{logs_agree, move_holds}
use Rattle.px_cell_laws.proofs.laws.a_move_keeps_the_chains.Goals as goal

pub returns-clause-chains : goal.returns-clause-chains
returns-clause-chains c = move_holds

pub returns-clause-references : goal.returns-clause-references
returns-clause-references c = logs_agree
