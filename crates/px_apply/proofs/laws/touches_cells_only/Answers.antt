use Rattle.px_apply.proofs.Touched.{within_touches, only_in_turn}
use Rattle.px_apply.proofs.laws.touches_cells_only.Goals as goal

pub returns : goal.returns
returns c = record { within = within_touches; in_turn = only_in_turn }
