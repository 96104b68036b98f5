use Rattle.px_cell_opening.proofs.Sound.{only_passes}
use Rattle.px_cell_opening.proofs.laws.what_stands_has_no_damage.Goals as goal

pub returns : goal.returns
returns c = λ restart commits rows files error picked one stands refusal.
    only_passes c.what_opens_is_one.ensures.tables c.what_opens_is_one.ensures.layouts c.what_opens_has_no_damage.ensures restart commits rows files error
    (record { picked = picked; one = one }) stands refusal
