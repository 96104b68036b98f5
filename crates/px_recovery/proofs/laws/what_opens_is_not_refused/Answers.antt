use Rattle.px_recovery.proofs.Sound.{only_passes}
use Rattle.px_recovery.proofs.laws.what_opens_is_not_refused.Goals as goal

pub returns : goal.returns
returns c = λ files report error opens.
    only_passes c.what_opens_is_one.ensures.tables c.what_opens_is_one.ensures.layouts c.what_opens_has_no_damage.ensures files opens.restart opens.changes opens.tables opens.layouts
    error opens.picked (record { scan = opens.scan; opens = opens.opens; stored = opens.stored })
