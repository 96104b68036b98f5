use Rattle.px_beginning.proofs.Unlinks.{tidied_works}
use Rattle.px_beginning.proofs.tidying.what_was_tidied_works.Goals as goal

pub returns : goal.returns
returns c = tidied_works c.a_store_is_tidied.ensures.tidied c.a_store_is_tidied.ensures.tables c.bases.ensures.unlinked c.what_begins_works.ensures c.a_life_begins.ensures
