use Rattle.px_cell_standing.proofs.Made.{new_found, new_settled, new_stands}
use Rattle.px_cell_standing.proofs.laws.a_new_store_is_found.Goals as goal

pub returns-clause-found : goal.returns-clause-found
returns-clause-found c = λ files restart picked next durable none.
    new_found files restart picked next durable none c.a_new_store_is_reachable.ensures c.a_step_keeps_what_is_held.ensures.nothing c.more_places_open_to_the_same.ensures
    c.no_cells_show_no_rows.ensures

pub returns-clause-stands : goal.returns-clause-stands
returns-clause-stands c = λ files restart picked next durable none.
    new_stands files restart picked next durable none c.a_new_store_is_reachable.ensures c.a_step_keeps_what_is_held.ensures.nothing c.more_places_open_to_the_same.ensures
    c.no_cells_show_no_rows.ensures

pub returns-clause-settled : goal.returns-clause-settled
returns-clause-settled c = λ s restart picked next durable segment none rests.
    new_settled s restart picked next durable segment none rests c.a_new_store_is_reachable.ensures c.a_step_keeps_what_is_held.ensures.nothing
    c.more_places_open_to_the_same.ensures c.no_cells_show_no_rows.ensures
