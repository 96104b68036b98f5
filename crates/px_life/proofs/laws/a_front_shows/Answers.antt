use Rattle.px_life.proofs.Fronts.{front_shows}
use Rattle.px_life.proofs.laws.a_front_shows.Goals as goal

pub returns : goal.returns
returns c = front_shows c.a_history_shows_what_it_tells.ensures.shows
