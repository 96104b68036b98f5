use Rattle.px_cell_opening.proofs.Beginning.{read_has_life}
use Rattle.px_cell_opening.proofs.laws.what_was_read_has_its_life.Goals as goal

pub returns : goal.returns
returns c = λ restart commits rows found s can rests. read_has_life restart commits rows found s can rests c.what_was_read_lasts.ensures
