use Rattle.px_shown.proofs.Moving.{in_front_after, keys_after, move_shows, move_sound, move_written, none_after, rows_after}
use Rattle.px_shown.proofs.laws.a_move_shows_the_same.Goals as goal

pub returns-clause-sound : goal.returns-clause-sound
returns-clause-sound c = move_sound

pub returns-clause-shows : goal.returns-clause-shows
returns-clause-shows c = move_shows

pub returns-clause-writes : goal.returns-clause-writes
returns-clause-writes c = move_written

pub returns-clause-in_front : goal.returns-clause-in_front
returns-clause-in_front c = in_front_after

pub returns-clause-none_of : goal.returns-clause-none_of
returns-clause-none_of c = none_after

pub returns-clause-rows : goal.returns-clause-rows
returns-clause-rows c = rows_after

pub returns-clause-keys : goal.returns-clause-keys
returns-clause-keys c = keys_after
