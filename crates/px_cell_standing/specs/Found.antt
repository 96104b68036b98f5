-- What an opening finds in files that stand for a store, and the machine that starts there.
use Rattle.std.specs.Prelude.{◌≡◌, ℕ, ◌+◌, ◌-◌, ◌<◌, ◌≤◌, List, length}
use Rattle.px_beginning.specs.Found.{Reading}
use Rattle.px_beginning.specs.Numbers.{IsNext, IsUnnamed}
use Rattle.px_history.specs.Store.{Store}
use Rattle.px_life.specs.Found.{store_found}
use Rattle.px_life.specs.Front.{commits_by, done_by}
use Rattle.px_life.specs.Life.{Life}
use Rattle.px_logged.specs.Recounting.{rows_now}
use Rattle.px_model.specs.Machine.{Machine, commits, fresh}
use Rattle.px_model.specs.declared.row.Row.{Row}
use Rattle.px_reached.specs.Stands.{Finds}
use Rattle.px_restart.specs.declared.restart.Restart.{Restart}
use Rattle.px_shown.specs.Parts.{no_parts}
use Rattle.px_shown.specs.Shown.{Shows}
use Rattle.px_site.specs.State.{Moment, State}
use Rattle.px_standing.specs.Files.{Files}
use Rattle.px_tidy.specs.Steps.{tidying_tables}
use Rattle.px_working.specs.Follows.{last_store}
use Rattle.px_cell_standing.specs.Settled.{HasEmptyTables, IsAlone, Settled}

pub record Found : Type 0 where
  pub tables : ℕ
  -- the longest body that a slot holds
  pub short : ℕ
  pub rows : List Row
  pub commits : ℕ
  -- the number before that of the next transaction
  pub base : ℕ
  -- how many frames of the log stand behind the restart's `redo`
  pub redone : ℕ
  -- the number of the next frame, once the store is opened: each version that nobody will see was unlinked in a frame of its own
  pub frames : ℕ

-- the machine that starts there
abbrev pub machine_of : Found → Machine
machine_of found = fresh found.tables found.short found.rows found.commits found.base

-- ---- what is read

-- the store of the tables that were read
abbrev pub store_of : Reading → Store
store_of read = store_found read.next read.found read.layouts (done_by read.restart read.changes)

-- the number of the frame behind those that were read
abbrev pub frame_behind : Reading → ℕ
frame_behind read = read.restart.first + length read.changes

-- what a reading says
abbrev pub found_in : Reading → Found
found_in read = record {
  tables = read.restart.tables;
  short = read.restart.short;
  rows = read.rows;
  commits = commits_by read.restart read.changes;
  base = read.next - 1;
  redone = frame_behind read - read.restart.redo;
  frames = frame_behind read + length (tidying_tables (store_of read) read.restart.tables);
}

-- this can be read in the files
pub record IsReadIn (files : Files) (read : Reading) : Type 0 where
  pub finds : Finds files read.restart read.changes read.found read.layouts
  pub shows : Shows no_parts read.found read.layouts (done_by read.restart read.changes) read.rows
  pub number : IsNext read.restart read.changes read.found read.layouts read.next

-- this is found in the files
pub record IsFound (found : Found) (files : Files) : Type 0 where
  pub read : Reading
  pub reads : IsReadIn files read
  pub is : found ≡ found_in read

-- This is found on the site, settled or not: in what is read, which lies in one file.
pub record IsFoundOn (found : Found) (s : State) : Type 0 where
  pub is_found : IsFound found s.content
  pub alone : IsAlone s

-- the site stands for a store in which this is found, and so does whatever a crash now leaves of it
pub record IsSettledStore (found : Found) (s : State) : Type 0 where
  pub is_found : IsFound found s.content
  pub settled : Settled s found.commits found.rows

-- ---- what a machine leaves

-- what is found has the machine's shape, and all that it has committed; numbers go on behind those that it gave to writers
pub record HasAllOf (m : Machine) (found : Found) : Type 0 where
  pub tables : found.tables ≡ m.tables
  pub short : found.short ≡ m.short
  pub commits_are : found.commits ≡ commits m
  pub rows_are : found.rows ≡ rows_now m
  pub base_from : m.base ≤ found.base
  pub base_to : found.base ≤ m.base + m.begun

-- the site is a settled store with all that the machine has committed
pub record HoldsStore (m : Machine) (s : State) : Type 0 where
  pub found : Found
  pub store : IsSettledStore found s
  pub has_all : HasAllOf m found

-- ---- while the machine works

-- Whoever reads restart, frames and versions next goes on behind the machine's base, and with the machine's own next number at most: of
-- these numbers the base, or a greater one, is named there, and none past those that the machine gave.
pub record NamesNumbers (m : Machine) (life : Life) (restart : Restart) : Type 0 where
  pub from : (next : ℕ) → IsUnnamed restart life.changes (last_store life).tables (last_store life).layouts next → m.base < next
  pub to : IsUnnamed restart life.changes (last_store life).tables (last_store life).layouts (m.base + m.begun + 1)

-- What is left at this moment can be found again, with all that the machine has committed. Until the table files are written they have no
-- byte, and all frames are laid again.
pub record CanBeFound (m : Machine) (life : Life) (restart : Restart) (now : Moment) : Type 0 where
  pub names : NamesNumbers m life restart
  pub tables : HasEmptyTables now
  pub redo : restart.redo ≡ 0
