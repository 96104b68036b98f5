use Rattle.px_chain.proofs.SoundUnlink.{part_unlinked}
use Rattle.px_chain.proofs.laws.unlinked_cells_are_sound.Goals as goal

pub returns : goal.returns
returns c = part_unlinked
