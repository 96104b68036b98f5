use Rattle.px_life.proofs.Made.{new_is_life}
use Rattle.px_life.proofs.laws.a_new_store_is_a_life.Goals as goal

pub returns : goal.returns
returns c = new_is_life
