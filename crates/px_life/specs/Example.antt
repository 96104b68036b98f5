-- A store that was just made, and two runs of it: 3 writes a row and commits; then the store is opened again, and 5 writes the row
-- once more but stops before it commits.
use Rattle.std.specs.Prelude.{List, [], ◌∷◌}
use Rattle.px_cells.specs.declared.slot.Slot.{Slot}
use Rattle.px_history.specs.Base.{ended_before}
use Rattle.px_history.specs.Example.{header_with}
use Rattle.px_history.specs.Steps.{Step}
use Rattle.px_history.specs.Store.{Store, nothing}
use Rattle.px_history.specs.Written.{change_of}
use Rattle.px_laid.specs.Places.{none_laid}
use Rattle.px_model.specs.declared.row.Row.{Row}
use Rattle.px_restart.specs.declared.restart.Restart.{Restart}
use Rattle.px_shown.specs.Example.{row_with, written_by_3, written_by_5}
use Rattle.px_life.specs.Found.{life_found}
use Rattle.px_life.specs.Front.{done_by}
use Rattle.px_life.specs.Life.{Life, end_of, grown, store_at}

abbrev pub new_life : Life
new_life = record { first = 0; changes = []; redo = 0; start = 0; base = ended_before 1 nothing; below = none_laid; steps = [] }

-- with two tables, and 16 bytes of a body in a slot
abbrev pub new_restart : Restart
new_restart = record { serial = 1; tables = 2; short = 16; commits = 0; next = 1; low = 1; first = 0; redo = 0; durable = 0; segment = 1 }

-- a step more, and its change
abbrev pub went_on : Life → Step → Life
went_on life step = grown life step (change_of 16 (store_at life (end_of life)) step)

-- ---- the first run

abbrev pub put_by_3 : Step
put_by_3 = Step.put 2 (header_with 1) written_by_3

abbrev pub commit_of_3 : Step
commit_of_3 = Step.commit 3 1

abbrev pub first_run : Life
first_run = went_on (went_on new_life put_by_3) commit_of_3

-- ---- and the second one

abbrev pub store_left : Store
store_left = store_at first_run (end_of first_run)

-- all its frames were read, and 4 is the next number
abbrev pub opened_again : Life
opened_again = life_found 4 0 0 first_run.changes none_laid store_left.tables store_left.layouts (done_by new_restart first_run.changes)

-- in front of what 3 wrote
abbrev pub again_by_5 : Slot
again_by_5 = record written_by_5 { next = 1 }

abbrev pub put_by_5 : Step
put_by_5 = Step.put 2 (header_with 2) again_by_5

abbrev pub second_run : Life
second_run = went_on opened_again put_by_5

-- what 3 wrote
abbrev pub row_of_3 : List Row
row_of_3 = row_with (97 ∷ []) ∷ []
