-- What is opened of a store.
use Rattle.std.specs.Prelude.{◌≡◌, ◌⊎◌, ℕ, ◌+◌, ◌-◌, List, length}
use Rattle.px_beginning.specs.Numbers.{IsNext}
use Rattle.px_change.specs.declared.change.Change.{Change}
use Rattle.px_history.specs.Steps.{after_steps}
use Rattle.px_history.specs.Store.{Store}
use Rattle.px_laid.specs.Places.{none_laid}
use Rattle.px_life.specs.Found.{store_found}
use Rattle.px_life.specs.Front.{AreStored, commits_by, done_by}
use Rattle.px_life.specs.Life.{Life}
use Rattle.px_log.specs.Contents.{Scans}
use Rattle.px_log.specs.Touching.{TouchesLog}
use Rattle.px_model.specs.Machine.{Machine, fresh}
use Rattle.px_model.specs.declared.row.Row.{Row}
use Rattle.px_opened.specs.Opened.{Opens, changes_over}
use Rattle.px_reached.specs.Reachable.{Marks}
use Rattle.px_restart.specs.declared.restart.Restart.{Restart}
use Rattle.px_shown.specs.Parts.{no_parts}
use Rattle.px_shown.specs.Tables.{Layouts, Tables}
use Rattle.px_site.specs.State.{State}
use Rattle.px_tidy.specs.Steps.{tidying_tables}
use Rattle.px_tidying.specs.Opening.{HasLife, HasStore, opening}
use Rattle.px_working.specs.Lasts.{IsValid}
use Rattle.px_working.specs.Works.{Works}
use Rattle.px_cell_standing.specs.Found.{CanBeFound}
use Rattle.px_cell_standing.specs.Settled.{IsAlone}
use Rattle.px_cell_standing.specs.Standing.{StandsFor}
use Rattle.px_cell_opening.specs.declared.opening.Cells.{Cells}
use Rattle.px_cell_opening.specs.declared.opening.Found.{Found}
use Rattle.px_cell_opening.specs.Found.{HasFound}

-- ---- what was read

-- the tables that were found, and who is done below the next number
abbrev pub store_of : Restart → List Change → (next : ℕ) → Tables → Layouts → Store
store_of restart changes next found layouts = store_found next found layouts (done_by restart changes)

-- the store without the versions that nobody will see, and how many these are
abbrev pub tidied_store : (tables : ℕ) → Store → Store
tidied_store tables store = after_steps store (tidying_tables store tables)

abbrev pub tidied_count : (tables : ℕ) → Store → ℕ
tidied_count tables store = length (tidying_tables store tables)

-- These changes stand in the log. The tables are those to which their cells open, without what nobody will see, each such version in a
-- frame of its own; the base is the number before the least that neither the restart nor a change nor a version names. Counted are the
-- commits, and the frames from the restart's `redo` on that were read.
pub record OpensAs (restart : Restart) (bytes : List ℕ) (cells : Cells) (s : State) : Type 0 where
  pub changes : List Change
  pub scan : Scans restart bytes changes
  pub found : Tables
  pub layouts : Layouts
  pub opens : Opens restart.short restart.tables (changes_over none_laid changes) found layouts
  pub stored : AreStored found layouts
  pub next : IsNext restart changes found layouts (cells.base + 1)
  pub has : HasStore (tidied_store restart.tables (store_of restart changes (cells.base + 1) found layouts)) (opening s cells.held cells.log)
  pub frames : cells.log.frames ≡ length changes + tidied_count restart.tables (store_of restart changes (cells.base + 1) found layouts)
  pub commits_are : cells.commits ≡ commits_by restart changes
  pub redone_are : cells.redone ≡ length changes - restart.redo

-- ---- what is touched

-- so many versions of the tables to which these bytes open are unlinked
pub record Unlinks (restart : Restart) (bytes : List ℕ) (count : ℕ) : Type 0 where
  pub changes : List Change
  pub scan : Scans restart bytes changes
  pub found : Tables
  pub layouts : Layouts
  pub opens : Opens restart.short restart.tables (changes_over none_laid changes) found layouts
  pub stored : AreStored found layouts
  pub next : ℕ
  pub is_next : IsNext restart changes found layouts next
  pub count_is : count ≡ tidied_count restart.tables (store_of restart changes next found layouts)

-- Nothing but the log was touched: two calls cut what is torn behind it, and there was one for each version that was to be unlinked, and a
-- sync. Where it didn't come so far, no version was.
pub record TouchesAsOpened (restart : Restart) (bytes : List ℕ) (old new : State) : Type 0 where
  pub count : ℕ
  pub unlinked : (count ≡ 0) ⊎ Unlinks restart bytes count
  pub touches : TouchesLog (3 + count) old new

-- ---- what may be opened

-- This restart counts and is on the disk, and all that is read stands in one file, for these commits and rows.
pub record MayOpen (restart : Restart) (commits : ℕ) (rows : List Row) (s : State) : Type 0 where
  pub valid : IsValid restart s.now
  pub alone : IsAlone s
  pub stands : StandsFor s.content commits rows

-- ---- that it goes on

-- the machine that starts with these rows and commits
abbrev pub machine_of : Restart → (commits : ℕ) → List Row → (base : ℕ) → Machine
machine_of restart commits rows base = fresh restart.tables restart.short rows commits base

-- A life lasts on the site for the machine that starts with these rows and commits, which are all acknowledged, and the machine works in
-- its last front, whose tables and log these are. What is left on the site can be found again.
pub record WorksFrom (restart : Restart) (commits : ℕ) (rows : List Row) (s : State) (cells : Cells) : Type 0 where
  pub commits_are : cells.commits ≡ commits
  pub life : Life
  pub marks : Marks
  pub has : HasLife no_parts commits (machine_of restart commits rows cells.base) life restart marks (opening s cells.held cells.log)
  pub works : Works no_parts (machine_of restart commits rows cells.base) life restart
  pub found : CanBeFound (machine_of restart commits rows cells.base) life restart s.now
  pub durable : cells.log.durable ≡ cells.log.frames

-- ---- within the opening

-- what was found, tidied
pub record IsTidiedOf (restart : Restart) (found : Found) (s : State) (cells : Cells) : Type 0 where
  pub was : HasFound restart found
  pub has : HasStore (tidied_store restart.tables (store_of restart found.changes found.next was.holds.found was.holds.layouts)) (opening s cells.held cells.log)
  pub frames : cells.log.frames ≡ found.log.frames + tidied_count restart.tables (store_of restart found.changes found.next was.holds.found was.holds.layouts)
  pub base : cells.base + 1 ≡ found.next
  pub commits_are : cells.commits ≡ commits_by restart found.changes
  pub redone_are : cells.redone ≡ length found.changes - restart.redo
