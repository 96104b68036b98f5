use Rattle.px_life.proofs.Found.{life_begins}
use Rattle.px_life.proofs.laws.a_life_begins.Goals as goal

pub returns : goal.returns
returns c = life_begins c.what_opens_is_one.ensures.shows c.only_numbers_in_chains_are_asked.ensures c.more_places_open_to_the_same.ensures
