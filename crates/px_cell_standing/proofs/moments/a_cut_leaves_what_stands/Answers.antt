use Rattle.px_cell_standing.proofs.Cutting.{cut_stands}
use Rattle.px_cell_standing.proofs.moments.a_cut_leaves_what_stands.Goals as goal

pub returns : goal.returns
returns c = cut_stands
