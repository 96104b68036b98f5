use Rattle.px_chain.proofs.SoundLaws.{sound_alike}
use Rattle.px_chain.proofs.laws.cells_with_the_same_links_are_sound.Goals as goal

pub returns : goal.returns
returns c = sound_alike
