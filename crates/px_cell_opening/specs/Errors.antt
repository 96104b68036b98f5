-- Why the cells of a store aren't opened, and what Damaged says of the log.
use Rattle.std.specs.Prelude.{◌≡◌, ◌≢◌, ◌+◌, ◌<◌, ◌≤◌, ◌⊎◌, ⊤, ℕ, List, length}
use Rattle.px_change.specs.declared.change.Change.{Change}
use Rattle.px_beginning.specs.Numbers.{IsNext}
use Rattle.px_held.specs.declared.error.HeldError.{HeldError}
use Rattle.px_held.specs.declared.error.HeldError.TheVariants as held
use Rattle.px_laid.specs.Places.{none_laid}
use Rattle.px_life.specs.Front.{AreStored}
use Rattle.px_log.specs.Contents.{IsDamage as IsLogDamage, Scans}
use Rattle.px_log.specs.Log.{most_frames}
use Rattle.px_log.specs.declared.error.LogOpenError.{LogOpenError}
use Rattle.px_log.specs.declared.error.LogOpenError.TheVariants as log
use Rattle.px_opened.specs.Damage.{IsDamage as IsTablesDamage}
use Rattle.px_opened.specs.Opened.{Opens, changes_over}
use Rattle.px_opened.specs.declared.error.OpenedError.{OpenedError}
use Rattle.px_opened.specs.declared.error.OpenedError.TheVariants as opened
use Rattle.px_restart.specs.declared.restart.Restart.{Restart}
use Rattle.px_shown.specs.Tables.{Layouts, Tables}
use Rattle.px_site.specs.Cause.{Counts, Rose}
use Rattle.px_site.specs.State.{State}
use Rattle.px_site.specs.declared.error.Fault.TheVariants.{Tell}
use Rattle.px_site.specs.declared.name.FileName.{FileName}
use Rattle.px_tidying.specs.Numbers.{IsUnstoredIn}
use Rattle.px_tidying.specs.declared.error.TidyError.{TidyError}
use Rattle.px_tidying.specs.declared.error.TidyError.TheVariants as tidying
use Rattle.px_xlog.specs.Contents.{the_log}
use Rattle.px_cell_opening.specs.Opened.{store_of, tidied_count}
use Rattle.px_cell_opening.specs.declared.error.CellsError.{CellsError}
use Rattle.px_cell_opening.specs.declared.error.CellsError.TheVariants.{OutOfMemory, Fault, LogFull, Damaged}

-- ---- which error each of the calls below leads to

abbrev pub of_log : LogOpenError → CellsError
of_log log.OutOfMemory = OutOfMemory
of_log (log.Fault fault) = Fault fault
of_log (log.Damaged file place) = Damaged file place

abbrev pub of_tables : OpenedError → CellsError
of_tables opened.OutOfMemory = OutOfMemory
of_tables (opened.Damaged file place) = Damaged file place

abbrev pub of_held : HeldError → CellsError
of_held held.OutOfMemory = OutOfMemory
of_held (held.Fault fault) = Fault fault
of_held (held.Damaged file place) = Damaged file place

abbrev pub of_tidying : TidyError → CellsError
of_tidying tidying.OutOfMemory = OutOfMemory
of_tidying (tidying.Fault fault) = Fault fault
of_tidying (tidying.LogFull frame) = LogFull frame
of_tidying (tidying.Damaged file place) = Damaged file place

-- ---- causes

-- a fault was counted, and the log has no room for the frame
abbrev pub HasCellsCause : (old new : Counts) → CellsError → Type 0
HasCellsCause old new OutOfMemory = ⊤
HasCellsCause old new (Fault fault) = Rose (old.faults fault) (new.faults fault)
HasCellsCause old new (LogFull frame) = most_frames ≤ frame
HasCellsCause old new (Damaged file place) = ⊤

-- the error says nothing of what stands in the files
abbrev pub IsPassing : CellsError → Type 0
IsPassing OutOfMemory = ⊤
IsPassing (Fault fault) = ⊤
IsPassing (LogFull frame) = ⊤
IsPassing (Damaged file place) = ⊥

-- a fault is one of a file's
abbrev pub IsFileFault : CellsError → Type 0
IsFileFault OutOfMemory = ⊤
IsFileFault (Fault fault) = fault ≢ Tell
IsFileFault (LogFull frame) = ⊤
IsFileFault (Damaged file place) = ⊤

-- ---- damage

-- a frame of the log holds no change, or the log ends before its durable frames do
pub record IsDamagedLog (restart : Restart) (bytes : List ℕ) (file : FileName) (place : ℕ) : Type 0 where
  pub its_file : file ≡ the_log
  pub damage : IsLogDamage restart bytes place

-- the cells of the log's frames have this first damage
pub record AreDamagedTables (restart : Restart) (bytes : List ℕ) (file : FileName) (place : ℕ) : Type 0 where
  pub changes : List Change
  pub scan : Scans restart bytes changes
  pub damage : IsTablesDamage restart.short restart.tables (changes_over none_laid changes) file place

-- the cells are sound, and a version in them has no stored number
pub record HasUnstored (restart : Restart) (bytes : List ℕ) (file : FileName) (place : ℕ) : Type 0 where
  pub changes : List Change
  pub scan : Scans restart bytes changes
  pub found : Tables
  pub layouts : Layouts
  pub opens : Opens restart.short restart.tables (changes_over none_laid changes) found layouts
  pub unstored : IsUnstoredIn restart.short restart.tables found file place

abbrev pub IsDamage : Restart → (bytes : List ℕ) → FileName → (place : ℕ) → Type 0
IsDamage restart bytes file place = IsDamagedLog restart bytes file place ⊎ (AreDamagedTables restart bytes file place ⊎ HasUnstored restart bytes file place)

-- ---- no room

-- The cells are sound, each version in them has a stored number, and one is to be unlinked in a frame of this number, which the log doesn't
-- take: it would be one of those behind the frames that were read, of which there are as many as versions that nobody will see.
pub record HasNoRoom (restart : Restart) (bytes : List ℕ) (frame : ℕ) : Type 0 where
  pub changes : List Change
  pub scan : Scans restart bytes changes
  pub found : Tables
  pub layouts : Layouts
  pub opens : Opens restart.short restart.tables (changes_over none_laid changes) found layouts
  pub stored : AreStored found layouts
  pub next : ℕ
  pub is_next : IsNext restart changes found layouts next
  pub none_left : most_frames ≤ frame
  pub below : frame < length changes + tidied_count restart.tables (store_of restart changes next found layouts)

-- what an error says of the log's bytes
abbrev pub HasRefusal : Restart → (bytes : List ℕ) → CellsError → Type 0
HasRefusal restart bytes OutOfMemory = ⊤
HasRefusal restart bytes (Fault fault) = ⊤
HasRefusal restart bytes (LogFull frame) = HasNoRoom restart bytes frame
HasRefusal restart bytes (Damaged file place) = IsDamage restart bytes file place

-- ---- what an error leaves

-- a damaged store is left as it was
abbrev pub LeavesDamaged : (old new : State) → CellsError → Type 0
LeavesDamaged old new OutOfMemory = ⊤
LeavesDamaged old new (Fault fault) = ⊤
LeavesDamaged old new (LogFull frame) = ⊤
LeavesDamaged old new (Damaged file place) = new ≡ old
