use Rattle.px_recovery.proofs.Found.{finds_no_room}
use Rattle.px_recovery.proofs.laws.what_is_found_has_room.Goals as goal

pub returns : goal.returns
returns c =
    finds_no_room c.what_opens_is_one.ensures.tables c.what_opens_is_one.ensures.layouts c.what_opens_is_one.ensures.shows c.what_is_found_stands.ensures.stands
    c.what_is_found_is_one.ensures.found
