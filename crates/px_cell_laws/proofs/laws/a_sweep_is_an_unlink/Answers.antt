use Rattle.px_cell_laws.proofs.Covering.{sweep_follows}
use Rattle.px_cell_laws.proofs.Swept.{nothing_goes, sweep_holds, two_at_most}
use Rattle.px_cell_laws.proofs.laws.a_sweep_is_an_unlink.Goals as goal

pub returns-clause-moves : goal.returns-clause-moves
returns-clause-moves c = sweep_follows

pub returns-clause-chains : goal.returns-clause-chains
returns-clause-chains c = sweep_holds

pub returns-clause-nothing : goal.returns-clause-nothing
returns-clause-nothing c = nothing_goes

pub returns-clause-few : goal.returns-clause-few
returns-clause-few c = two_at_most
