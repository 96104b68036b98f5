use Rattle.std.proofs.Common.{refl}
use Rattle.px_cell_standing.proofs.Beginning.{read_begins, tidied_end}
use Rattle.px_cell_standing.proofs.laws.what_is_read_begins.Goals as goal

pub returns-clause-begins : goal.returns-clause-begins
returns-clause-begins c = read_begins c.without_cells_files_rest.ensures

pub returns-clause-machine : goal.returns-clause-machine
returns-clause-machine c = λ read. refl

pub returns-clause-frames : goal.returns-clause-frames
returns-clause-frames c = tidied_end
