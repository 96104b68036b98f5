use Rattle.px_shown.proofs.Writing.{nothing_written, nothing_in_front, link_written, link_of_another, link_in_front}
use Rattle.px_shown.proofs.Fronts.{in_front_both}
use Rattle.px_shown.proofs.laws.a_write_that_is_linked.Goals as goal

pub returns-clause-none : goal.returns-clause-none
returns-clause-none c = nothing_written

pub returns-clause-none_in_front : goal.returns-clause-none_in_front
returns-clause-none_in_front c = nothing_in_front

pub returns-clause-own : goal.returns-clause-own
returns-clause-own c = link_written

pub returns-clause-of_others : goal.returns-clause-of_others
returns-clause-of_others c = link_of_another

pub returns-clause-in_front : goal.returns-clause-in_front
returns-clause-in_front c = link_in_front

pub returns-clause-in_one_chain : goal.returns-clause-in_one_chain
returns-clause-in_one_chain c = in_front_both
