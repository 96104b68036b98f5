use Rattle.px_dlog.proofs.Resting.{appended_read, appended_sound}
use Rattle.px_dlog.proofs.laws.what_was_appended_is_read.Goals as goal

pub returns-clause-read : goal.returns-clause-read
returns-clause-read c = appended_read

pub returns-clause-sound : goal.returns-clause-sound
returns-clause-sound c = appended_sound
