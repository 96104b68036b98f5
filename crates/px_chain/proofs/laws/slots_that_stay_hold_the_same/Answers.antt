use Rattle.px_chain.proofs.SoundUnlink.{part_kept}
use Rattle.px_chain.proofs.laws.slots_that_stay_hold_the_same.Goals as goal

pub returns : goal.returns
returns c = part_kept
