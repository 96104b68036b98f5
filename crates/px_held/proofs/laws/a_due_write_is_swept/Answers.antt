use Rattle.px_held.proofs.Due.{due_is_swept}
use Rattle.px_held.proofs.laws.a_due_write_is_swept.Goals as goal

pub returns : goal.returns
returns c =
    due_is_swept c.what_is_due_is_found_in_its_row.ensures.there c.what_is_due_is_found_in_its_row.ensures.swept c.a_swept_write_has_its_version.ensures.slot
    c.a_sweep_moves_the_base.ensures.one_base
