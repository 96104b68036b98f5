use Rattle.std.proofs.Common.{ap, ◌∙◌}
use Rattle.px_model.specs.Rows.{in_order}
use Rattle.px_cell_standing.specs.Found.{Found}
use Rattle.px_recovery.proofs.Found.{are_cells}
use Rattle.px_recovery.proofs.laws.what_was_opened_was_found.Goals as goal

pub returns-clause-cells : goal.returns-clause-cells
returns-clause-cells c = λ files found restart opened s is_found one_file picked opens.
    are_cells c.what_opens_is_one.ensures.tables c.what_opens_is_one.ensures.layouts c.what_opens_is_one.ensures.shows c.what_is_found_stands.ensures.stands
    c.what_is_found_is_one.ensures.found files found restart is_found one_file picked opened s opens

pub returns-clause-order : goal.returns-clause-order
returns-clause-order c = λ files found is. ap (λ (f : Found). in_order f.rows) is.is ∙ is.reads.shows.order
