use Rattle.px_cell_laws.proofs.Due.{due_swept, due_there}
use Rattle.px_cell_laws.proofs.laws.what_is_due_is_found_in_its_row.Goals as goal

pub returns-clause-there : goal.returns-clause-there
returns-clause-there c = due_there

pub returns-clause-swept : goal.returns-clause-swept
returns-clause-swept c = due_swept
