use Rattle.px_counted.proofs.Places.{among_is_used, rows_counted, slots_counted, used_is_among, used_once}
use Rattle.px_counted.proofs.laws.places_are_counted.Goals as goal

pub returns-clause-slots : goal.returns-clause-slots
returns-clause-slots c = slots_counted

pub returns-clause-rows : goal.returns-clause-rows
returns-clause-rows c = rows_counted

pub returns-clause-used : goal.returns-clause-used
returns-clause-used c = λ table row. (among_is_used table row, used_is_among table row)

pub returns-clause-once : goal.returns-clause-once
returns-clause-once c = used_once
