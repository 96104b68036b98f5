use Rattle.px_shown.proofs.Firsts.{newest_shown, none_shown, row_of_slot}
use Rattle.px_shown.proofs.laws.the_newest_done_is_shown.Goals as goal

pub returns-clause-newest : goal.returns-clause-newest
returns-clause-newest c = newest_shown

pub returns-clause-none : goal.returns-clause-none
returns-clause-none c = none_shown

pub returns-clause-slot : goal.returns-clause-slot
returns-clause-slot c = row_of_slot
