use Rattle.px_shown.proofs.Changes.{no_cells_sound, link_stays_sound, unlink_stays_sound}
use Rattle.px_shown.proofs.laws.tables_stay_sound.Goals as goal

pub returns-clause-none : goal.returns-clause-none
returns-clause-none c = no_cells_sound

pub returns-clause-link : goal.returns-clause-link
returns-clause-link c = link_stays_sound

pub returns-clause-unlink : goal.returns-clause-unlink
returns-clause-unlink c = unlink_stays_sound
