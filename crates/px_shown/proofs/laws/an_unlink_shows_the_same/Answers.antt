use Rattle.px_shown.proofs.Unlinking.{unlink_shows}
use Rattle.px_shown.proofs.laws.an_unlink_shows_the_same.Goals as goal

pub returns : goal.returns
returns c = unlink_shows
