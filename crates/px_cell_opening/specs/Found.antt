-- What an opening has found when it begins to tidy.
use Rattle.std.specs.Prelude.{◌≡◌, ℕ, ◌^◌, ◌≤◌, List, length}
use Rattle.px_beginning.specs.Found.{IsFound, Reading}
use Rattle.px_beginning.specs.Numbers.{IsNext}
use Rattle.px_change.specs.declared.change.Change.{Change}
use Rattle.px_held.specs.Serving.{HeldTables, Serves}
use Rattle.px_history.specs.Store.{Store}
use Rattle.px_laid.specs.Places.{none_laid}
use Rattle.px_life.specs.Front.{AreStored, commits_by}
use Rattle.px_log.specs.Log.{IsLogOf}
use Rattle.px_log.specs.MayStand.{MayStand}
use Rattle.px_model.specs.declared.limits.TheConstants.{STORED_NUMBERS_END}
use Rattle.px_model.specs.declared.row.Row.{Row}
use Rattle.px_opened.specs.Opened.{IsCounted, Opens, changes_over}
use Rattle.px_restart.specs.declared.restart.Restart.{Restart}
use Rattle.px_shown.specs.Parts.{no_parts}
use Rattle.px_shown.specs.Tables.{Layouts, Tables}
use Rattle.px_site.specs.State.{State}
use Rattle.px_cell_standing.specs.Settled.{HasEmptyTables}
use Rattle.px_cell_opening.specs.declared.opening.Found.{Found}

-- In a store with so many tables and that short length, what is held are the tables to which the cells of the changes open.
pub record HoldsTables (short tables : ℕ) (changes : List Change) (held : HeldTables) : Type 0 where
  pub found : Tables
  pub layouts : Layouts
  pub opens : Opens short tables (changes_over none_laid changes) found layouts
  pub counted : (t : ℕ) → IsCounted (found t)
  pub serves : (site : State) (store : Store) → store.tables ≡ found → store.layouts ≡ layouts → Serves site held store
  pub its_short : held.short ≡ short
  pub its_tables : length held.tables ≡ tables

-- The log has the changes, all of them durable; the tables are those that they open to; and the next number is the least one that
-- neither names.
pub record HasFound (restart : Restart) (found : Found) : Type 0 where
  pub holds : HoldsTables restart.short restart.tables found.changes found.held
  pub next : IsNext restart found.changes holds.found holds.layouts found.next
  pub stored : AreStored holds.found holds.layouts
  pub end : found.next ≤ STORED_NUMBERS_END
  pub stand : MayStand restart.tables 0 restart.short found.changes
  pub frames : found.log.frames ≡ length found.changes
  pub room : found.log.frames ≤ 2 ^ 48
  pub reached : restart.durable ≤ found.log.frames
  pub durable : found.log.durable ≡ found.log.frames
  pub log_tables : found.log.tables ≡ restart.tables
  pub log_short : found.log.short ≡ restart.short

-- what was read, with the rows that are shown there
abbrev pub reading_of : (restart : Restart) (found : Found) → HasFound restart found → List Row → Reading
reading_of restart found has rows = record {
  restart = restart;
  changes = found.changes;
  found = has.holds.found;
  layouts = has.holds.layouts;
  rows = rows;
  next = found.next;
}

-- On the site it is found so: the files rest, and stand for these commits and rows. No table file has a byte, and all frames were laid.
pub record Rests (restart : Restart) (commits : ℕ) (rows : List Row) (found : Found) (s : State) : Type 0 where
  pub has : HasFound restart found
  pub is_found : IsFound no_parts (reading_of restart found has rows) s
  pub commits_are : commits ≡ commits_by restart found.changes
  pub logged : IsLogOf found.log found.changes s
  pub tables : HasEmptyTables s.now
  pub redo : restart.redo ≡ 0
