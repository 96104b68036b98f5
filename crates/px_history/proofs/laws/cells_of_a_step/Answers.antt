use Rattle.px_history.proofs.Laying.{change_is_one, changes_are, history_laid, step_cells, step_laid, steps_cells}
use Rattle.px_history.proofs.laws.cells_of_a_step.Goals as goal

pub returns-clause-laid : goal.returns-clause-laid
returns-clause-laid c = step_laid

pub returns-clause-all_laid : goal.returns-clause-all_laid
returns-clause-all_laid c = history_laid

pub returns-clause-change : goal.returns-clause-change
returns-clause-change c = change_is_one

pub returns-clause-changes : goal.returns-clause-changes
returns-clause-changes c = changes_are

pub returns-clause-cells : goal.returns-clause-cells
returns-clause-cells c = step_cells

pub returns-clause-all_cells : goal.returns-clause-all_cells
returns-clause-all_cells c = steps_cells
