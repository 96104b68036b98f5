use Rattle.px_chain.proofs.SoundLink.{row_begun}
use Rattle.px_chain.proofs.laws.a_new_row_is_sound.Goals as goal

pub returns : goal.returns
returns c = row_begun
