use Rattle.px_recovery.proofs.Sound.{only_passes}
use Rattle.px_recovery.proofs.laws.what_has_no_room_is_not_refused.Goals as goal

pub returns : goal.returns
returns c = λ files frame error full.
    only_passes c.what_opens_is_one.ensures.tables c.what_opens_is_one.ensures.layouts c.what_opens_has_no_damage.ensures files full.restart full.no_room.changes full.no_room.found
    full.no_room.layouts error full.picked (record { scan = full.no_room.scan; opens = full.no_room.opens; stored = full.no_room.stored })
