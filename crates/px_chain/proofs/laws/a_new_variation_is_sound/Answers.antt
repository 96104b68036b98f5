use Rattle.px_chain.proofs.SoundLink.{row_varied}
use Rattle.px_chain.proofs.laws.a_new_variation_is_sound.Goals as goal

pub returns : goal.returns
returns c = row_varied
