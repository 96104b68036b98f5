use Rattle.px_opened.proofs.Kept.{held_opens}
use Rattle.px_opened.proofs.laws.what_is_held_opens.Goals as goal

pub returns : goal.returns
returns c = held_opens
