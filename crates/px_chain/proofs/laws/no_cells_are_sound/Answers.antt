use Rattle.px_chain.proofs.SoundLaws.{sound_none}
use Rattle.px_chain.proofs.laws.no_cells_are_sound.Goals as goal

pub returns : goal.returns
returns c = sound_none
