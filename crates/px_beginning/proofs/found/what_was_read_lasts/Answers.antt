use Rattle.px_beginning.proofs.Lasting.{read_lasts}
use Rattle.px_beginning.proofs.found.what_was_read_lasts.Goals as goal

pub returns : goal.returns
returns c = λ parts read s is. read_lasts parts read s is c.a_life_begins.ensures c.an_opening_knows_who_is_done.ensures c.the_log_keeps_its_fronts.ensures c.what_is_found_lasts.ensures
