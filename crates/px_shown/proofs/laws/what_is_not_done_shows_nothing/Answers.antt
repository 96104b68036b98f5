use Rattle.px_shown.proofs.Showing.{link_hidden}
use Rattle.px_shown.proofs.laws.what_is_not_done_shows_nothing.Goals as goal

pub returns : goal.returns
returns c = link_hidden
