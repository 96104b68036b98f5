use Rattle.px_recovery.proofs.Found.{found_sound}
use Rattle.px_recovery.proofs.Sound.{only_passes}
use Rattle.px_recovery.proofs.laws.what_is_found_is_not_refused.Goals as goal

pub returns : goal.returns
returns c = λ files found error is_found one_file.
    let sound = found_sound c.what_is_found_stands.ensures.stands files found is_found one_file in
    only_passes c.what_opens_is_one.ensures.tables c.what_opens_is_one.ensures.layouts c.what_opens_has_no_damage.ensures files is_found.read.restart sound.0 sound.1 sound.2
    error is_found.reads.finds.picked sound.3
