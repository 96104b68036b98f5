-- Two runs of one table. In the first one 3 writes a row and commits, 4 deletes it and is rolled back, and its version is
-- unlinked. In the second one 5 writes the row again, with a body that goes on in a data log, and commits; that part is moved to
-- another log, and what 3 wrote is swept.
use Rattle.std.specs.Prelude.{ℕ, ◌==◌, ◌&&◌, ◌||◌, List, [], ◌∷◌, ◌++◌, replicate, if◌then◌else◌}
use Rattle.px_cells.specs.declared.header.Header.{Header}
use Rattle.px_cells.specs.declared.slot.Slot.{Slot}
use Rattle.px_cells.specs.declared.slot.SlotState.TheVariants.{Deletion}
use Rattle.px_change.specs.declared.change.Change.{Change}
use Rattle.px_change.specs.declared.change.ChangeKind.TheVariants as kind
use Rattle.px_shown.specs.Example.{key, written_by_3, written_by_5}
use Rattle.px_shown.specs.Parts.{Parts}
use Rattle.px_history.specs.Store.{Store, nothing}
use Rattle.px_history.specs.Base.{ended_before}
use Rattle.px_history.specs.Steps.{Step, after_steps}
use Rattle.px_history.specs.Written.{change_of, changes_of}

-- one row, and so many slots
abbrev pub header_with : (slots : ℕ) → Header
header_with slots = record { slots = slots; free_slot = 0; rows = 1; free_row = 0 }

abbrev pub deleted_by_4 : Slot
deleted_by_4 = record { state = Deletion; xn = 4; next = 1; row = 1; tag = 0; total = 0; log = 0; place = 0; key = key; short = [] }

abbrev pub small_history : List Step
small_history =
    Step.put 2 (header_with 1) written_by_3 ∷ Step.commit 3 1 ∷ Step.put 2 (header_with 2) deleted_by_4 ∷ Step.rollback 4 ∷ Step.unlink 2 1 0 1 ∷ []

-- the store between the two runs
abbrev pub small_base : Store
small_base = ended_before 5 (after_steps nothing small_history)

-- the part of a long body, in two data logs
abbrev pub two_places : Parts
two_places log place = if ((log == 1) && (place == 8)) || ((log == 2) && (place == 24)) then 99 ∷ [] else []

-- as much of it as fits its slot
abbrev pub front_of_body : List ℕ
front_of_body = replicate 16 98

abbrev pub long_body : List ℕ
long_body = front_of_body ++ 99 ∷ []

-- in front of what 3 wrote
abbrev pub again_by_5 : Slot
again_by_5 = record written_by_5 { next = 1; total = 17; log = 1; place = 8; short = front_of_body }

-- what 5 does, and where its part goes
abbrev pub up_to_the_move : List Step
up_to_the_move = Step.put 2 (header_with 2) again_by_5 ∷ Step.commit 5 2 ∷ Step.move 2 2 2 24 ∷ []

abbrev pub sweep : Step
sweep = Step.unlink 2 1 1 1

abbrev pub second_run : List Step
second_run = up_to_the_move ++ sweep ∷ []

-- the sweeper's change names who wrote the row again
abbrev pub swept : Change
swept = record (change_of 16 (after_steps small_base up_to_the_move) sweep) { kind = kind.Sweep; xn = 5 }

abbrev pub second_changes : List Change
second_changes = changes_of 16 small_base up_to_the_move ++ swept ∷ []
