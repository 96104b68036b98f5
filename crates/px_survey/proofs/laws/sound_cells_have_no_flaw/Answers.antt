use Rattle.px_survey.proofs.SoundLaws.{no_flaw}
use Rattle.px_survey.proofs.laws.sound_cells_have_no_flaw.Goals as goal

pub returns : goal.returns
returns c = no_flaw
