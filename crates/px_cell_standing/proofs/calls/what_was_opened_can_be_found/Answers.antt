use Rattle.px_cell_standing.proofs.Opened.{opened_names}
use Rattle.px_cell_standing.proofs.calls.what_was_opened_can_be_found.Goals as goal

pub returns : goal.returns
returns c = λ files read now reads empty redo. record {
  names = opened_names c.what_opens_is_one.ensures.tables c.what_opens_is_one.ensures.layouts c.more_places_open_to_the_same.ensures c.a_store_is_tidied.ensures.tables files read reads;
  tables = empty;
  redo = redo;
}
