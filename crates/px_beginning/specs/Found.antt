-- What an opening finds of a store whose files rest, and the life and the machine that begin there.
use Rattle.std.specs.Prelude.{◌≡◌, ℕ, ◌+◌, ◌-◌, List, [], length}
use Rattle.px_apply.specs.Contents.{Contents}
use Rattle.px_cells.specs.declared.cell.CellKind.{CellKind}
use Rattle.px_change.specs.declared.change.Change.{Change}
use Rattle.px_filed.specs.Filed.{KeepsFiles, file_places}
use Rattle.px_life.specs.Found.{life_found}
use Rattle.px_life.specs.Front.{commits_by, done_by}
use Rattle.px_life.specs.Life.{Life}
use Rattle.px_model.specs.Machine.{Machine, fresh}
use Rattle.px_model.specs.declared.row.Row.{Row}
use Rattle.px_reached.specs.Reachable.{Marks}
use Rattle.px_reached.specs.Stands.{Finds}
use Rattle.px_recs.specs.Place.{table_file}
use Rattle.px_restart.specs.declared.restart.Restart.{Restart}
use Rattle.px_shown.specs.Parts.{Parts}
use Rattle.px_shown.specs.Shown.{Shows}
use Rattle.px_shown.specs.Tables.{Layouts, Tables}
use Rattle.px_site.specs.Disk.{IsImage, at_rest}
use Rattle.px_site.specs.State.{State}
use Rattle.px_site.specs.declared.name.FileName.{FileName}
use Rattle.px_working.specs.Lasts.{IsOneSegment, IsValid}
use Rattle.px_xlog.specs.Contents.{the_log}
use Rattle.px_beginning.specs.Numbers.{IsUnnamed}

-- What was read: the restart and the log's changes, the tables that these open to over the cells of the files, the rows that are
-- shown there, and the number of the next transaction.
pub record Reading : Type 0 where
  pub restart : Restart
  pub changes : List Change
  pub found : Tables
  pub layouts : Layouts
  pub rows : List Row
  pub next : ℕ

-- ---- what begins there

abbrev pub life_of : Reading → Contents → Life
life_of read files =
    life_found read.next read.restart.first read.restart.redo read.changes (file_places read.restart.short files) read.found read.layouts
    (done_by read.restart read.changes)

abbrev pub machine_of : Reading → Machine
machine_of read = fresh read.restart.tables read.restart.short read.rows (commits_by read.restart read.changes) (read.next - 1)

-- each frame is on the disk
abbrev pub marks_of : Reading → Marks
marks_of read = record { durable = read.restart.first + length read.changes; applied = read.restart.redo }

-- ---- a site on which it is found

-- The files say so, and rest: those of the restart and the log, and in the table files the cells before the frames that were laid over
-- them. What is read now is what a crash now may leave.
pub record IsFound (parts : Parts) (read : Reading) (s : State) : Type 0 where
  pub finds : Finds s.content read.restart read.changes read.found read.layouts
  pub shows : Shows parts read.found read.layouts (done_by read.restart read.changes) read.rows
  pub number : IsUnnamed read.restart read.changes read.found read.layouts read.next
  pub valid : IsValid read.restart s.now
  pub segment : IsOneSegment read.restart (life_of read s.content) s.now
  pub log : s.now.files the_log ≡ at_rest (s.content the_log)
  pub files : KeepsFiles read.restart.short (life_of read s.content) read.restart.redo read.restart.redo s.now.files
  pub images : (name : FileName) → IsImage (s.now.files name) (s.content name)

-- no table file has a byte
abbrev pub HasNoCells : State → Type 0
HasNoCells s = (what : CellKind) (table : ℕ) → (s.now.files (table_file what table) ≡ at_rest []) × (s.content (table_file what table) ≡ [])
