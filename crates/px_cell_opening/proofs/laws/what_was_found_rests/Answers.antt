use Rattle.px_cell_opening.proofs.Beginning.{found_rests}
use Rattle.px_cell_opening.proofs.laws.what_was_found_rests.Goals as goal

pub returns : goal.returns
returns c = λ restart commits rows found before now may reads has scan logged left.
    found_rests c.what_opens_is_one.ensures.shows restart commits rows found before now may reads has scan logged left
