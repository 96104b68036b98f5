use Rattle.std.proofs.Common.{[], refl}
use Rattle.px_shown.specs.Parts.{Parts}
use Rattle.px_life.proofs.Runs.{end_known, end_shows, first_is_life, opened_is_life, opened_known, opened_shows, second_is_life}
use Rattle.px_life.proofs.laws.a_life_in_two_runs.Goals as goal

-- data logs without a byte
none_there : Parts
none_there log place = []

pub returns-clause-first : goal.returns-clause-first
returns-clause-first c = first_is_life

pub returns-clause-opened : goal.returns-clause-opened
returns-clause-opened c = λ parts. opened_is_life parts c.a_step_keeps_what_is_held.ensures.steps c.a_history_shows_what_it_tells.ensures.shows c.what_opens_is_one.ensures.shows c.only_numbers_in_chains_are_asked.ensures c.more_places_open_to_the_same.ensures

pub returns-clause-second : goal.returns-clause-second
returns-clause-second c = λ parts. second_is_life parts c.a_step_keeps_what_is_held.ensures.steps c.a_history_shows_what_it_tells.ensures.shows c.what_opens_is_one.ensures.shows c.only_numbers_in_chains_are_asked.ensures c.more_places_open_to_the_same.ensures

pub returns-clause-at_start : goal.returns-clause-at_start
returns-clause-at_start c = λ parts. opened_shows parts c.a_step_keeps_what_is_held.ensures.steps c.a_history_shows_what_it_tells.ensures.shows c.what_opens_is_one.ensures.shows c.only_numbers_in_chains_are_asked.ensures c.more_places_open_to_the_same.ensures

pub returns-clause-at_end : goal.returns-clause-at_end
returns-clause-at_end c = λ parts. end_shows parts c.a_step_keeps_what_is_held.ensures.steps c.a_history_shows_what_it_tells.ensures.shows c.what_opens_is_one.ensures.shows c.only_numbers_in_chains_are_asked.ensures c.more_places_open_to_the_same.ensures

pub returns-clause-known : goal.returns-clause-known
returns-clause-known c = (opened_known none_there c.a_step_keeps_what_is_held.ensures.steps c.a_history_shows_what_it_tells.ensures.shows c.what_opens_is_one.ensures.shows c.only_numbers_in_chains_are_asked.ensures c.more_places_open_to_the_same.ensures, end_known none_there c.a_step_keeps_what_is_held.ensures.steps c.a_history_shows_what_it_tells.ensures.shows c.what_opens_is_one.ensures.shows c.only_numbers_in_chains_are_asked.ensures c.more_places_open_to_the_same.ensures)

pub returns-clause-done : goal.returns-clause-done
returns-clause-done c = (refl, refl)

pub returns-clause-commits : goal.returns-clause-commits
returns-clause-commits c = (refl, refl)
