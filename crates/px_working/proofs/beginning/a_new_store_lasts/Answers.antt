use Rattle.px_working.proofs.Fresh.{new_lasts, new_works}
use Rattle.px_working.proofs.beginning.a_new_store_lasts.Goals as goal

pub returns-clause-lasts : goal.returns-clause-lasts
returns-clause-lasts c = new_lasts c.what_is_found_lasts.ensures c.a_new_store_is_a_life.ensures c.a_new_store_is_reachable.ensures

pub returns-clause-works : goal.returns-clause-works
returns-clause-works c = new_works c.what_begins_works.ensures c.a_new_store_is_a_life.ensures
