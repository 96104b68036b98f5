-- Why a store isn't made or opened, and what a refusal leaves.
use Rattle.std.specs.Prelude.{◌≡◌, ◌≢◌, ◌<◌, ◌≤◌, ◌⊎◌, ⊤, ℕ}
use Rattle.px_site.specs.Cause.{Counts, Rose}
use Rattle.px_site.specs.State.{State}
use Rattle.px_site.specs.declared.name.FileName.{FileName}
use Rattle.px_site.specs.declared.error.Fault.TheVariants.{Read, Write, Sync, List as ListFault, Tell}
use Rattle.px_site.specs.declared.error.SiteError.{SiteError}
use Rattle.px_site.specs.declared.error.SiteError.TheVariants.{OutOfMemory as Short, Fault as Failed}
use Rattle.px_calls.specs.declared.status.Status.{Status}
use Rattle.px_calls.specs.declared.status.Status.TheVariants.{NoStore as StatusNone, NotEmpty as StatusUsed, Damaged as StatusDamaged, DiskFault, LogFull as StatusFull, OutOfMemory as StatusShort}
use Rattle.px_held.specs.declared.error.HeldError.{HeldError}
use Rattle.px_held.specs.declared.error.HeldError.TheVariants as held
use Rattle.px_log.specs.Log.{most_frames}
use Rattle.px_restart.specs.declared.restart.Restart.{Restart}
use Rattle.px_restart.specs.Restart.{IsPicked}
use Rattle.px_xlog.specs.Contents.{the_log}
use Rattle.px_standing.specs.Files.{Files, HasNoRestart, first_restart, second_restart}
use Rattle.px_cell_standing.specs.Found.{Found}
use Rattle.px_cell_opening.specs.Errors.{HasNoRoom, IsDamage}
use Rattle.px_cell_opening.specs.declared.error.CellsError.{CellsError}
use Rattle.px_cell_opening.specs.declared.error.CellsError.TheVariants as cells
use Rattle.px_recovery.specs.Making.{IsFree}
use Rattle.px_recovery.specs.declared.error.MakeError.{MakeError}
use Rattle.px_recovery.specs.declared.error.MakeError.TheVariants.{OutOfMemory, Fault as FaultOf, NotEmpty}
use Rattle.px_recovery.specs.declared.error.OpenError.{OpenError}
use Rattle.px_recovery.specs.declared.error.OpenError.TheVariants.{OutOfMemory as OpenShort, Fault as OpenFault, NoStore, LogFull, Damaged}

-- a fault is one of a file's
abbrev pub IsOfFile : SiteError → Type 0
IsOfFile Short = ⊤
IsOfFile (Failed fault) = fault ≢ Tell

-- a fault is one of a call that changes a file
abbrev pub IsOfChange : SiteError → Type 0
IsOfChange Short = ⊤
IsOfChange (Failed fault) = (fault ≡ Write) ⊎ (fault ≡ Sync)

-- ---- of make

abbrev pub of_site : SiteError → MakeError
of_site Short = OutOfMemory
of_site (Failed fault) = FaultOf fault

-- a fault and want of memory are the site's, which counted them
abbrev pub HasMakeCause : Counts → Counts → MakeError → Type 0
HasMakeCause old new OutOfMemory = Rose old.shorts new.shorts
HasMakeCause old new (FaultOf fault) = Rose (old.faults fault) (new.faults fault)
HasMakeCause old new NotEmpty = ⊤

-- the same of an error of make
abbrev pub MakesFileFault : MakeError → Type 0
MakesFileFault OutOfMemory = ⊤
MakesFileFault (FaultOf fault) = fault ≢ Tell
MakesFileFault NotEmpty = ⊤

-- NotEmpty comes only where the site isn't free; it leaves the site as it was, and so does a fault of a listing or a read
abbrev pub LeavesUnmade : State → State → MakeError → Type 0
LeavesUnmade old new OutOfMemory = ⊤
LeavesUnmade old new (FaultOf Read) = new ≡ old
LeavesUnmade old new (FaultOf ListFault) = new ≡ old
LeavesUnmade old new (FaultOf fault) = ⊤
LeavesUnmade old new NotEmpty = (IsFree old.content → ⊥) × (new ≡ old)

-- ---- of open_store

abbrev pub open_of_site : SiteError → OpenError
open_of_site Short = OpenShort
open_of_site (Failed fault) = OpenFault fault

abbrev pub open_of_cells : CellsError → OpenError
open_of_cells cells.OutOfMemory = OpenShort
open_of_cells (cells.Fault fault) = OpenFault fault
open_of_cells (cells.LogFull frame) = LogFull frame
open_of_cells (cells.Damaged file place) = Damaged file place

abbrev pub open_of_held : HeldError → OpenError
open_of_held held.OutOfMemory = OpenShort
open_of_held (held.Fault fault) = OpenFault fault
open_of_held (held.Damaged file place) = Damaged file place

-- the restart that counts, and the damage of the cells that it leads to
pub record HasDamage (files : Files) (file : FileName) (place : ℕ) : Type 0 where
  pub restart : Restart
  pub picked : IsPicked (first_restart files) (second_restart files) restart
  pub damage : IsDamage restart (files the_log) file place

-- the restart that counts, and that its log takes no frame of this number, in which a version is to be unlinked
pub record HasNoRoomIn (files : Files) (frame : ℕ) : Type 0 where
  pub restart : Restart
  pub picked : IsPicked (first_restart files) (second_restart files) restart
  pub no_room : HasNoRoom restart (files the_log) frame

-- what a refusal says of the files
abbrev pub HasRefusal : Files → OpenError → Type 0
HasRefusal files OpenShort = ⊤
HasRefusal files (OpenFault fault) = ⊤
HasRefusal files NoStore = HasNoRestart files
HasRefusal files (LogFull frame) = HasNoRoomIn files frame
HasRefusal files (Damaged file place) = HasDamage files file place

-- no refusal of what stands there: want of memory, a fault of the site, or no room in the log
abbrev pub IsPassing : OpenError → Type 0
IsPassing OpenShort = ⊤
IsPassing (OpenFault fault) = ⊤
IsPassing NoStore = ⊥
IsPassing (LogFull frame) = ⊤
IsPassing (Damaged file place) = ⊥

-- it says nothing of the files at all
abbrev pub SaysNothing : OpenError → Type 0
SaysNothing OpenShort = ⊤
SaysNothing (OpenFault fault) = ⊤
SaysNothing NoStore = ⊥
SaysNothing (LogFull frame) = ⊥
SaysNothing (Damaged file place) = ⊥

-- where no store is: that is said, or memory was wanted, or a restart file couldn't be read
abbrev pub IsAbsence : OpenError → Type 0
IsAbsence OpenShort = ⊤
IsAbsence (OpenFault fault) = fault ≡ Read
IsAbsence NoStore = ⊤
IsAbsence (LogFull frame) = ⊥
IsAbsence (Damaged file place) = ⊥

-- a fault is one of a file's, and was counted; where the log is full it takes no frame of that number
abbrev pub CountsFault : Counts → Counts → OpenError → Type 0
CountsFault old new OpenShort = ⊤
CountsFault old new (OpenFault fault) = (fault ≢ Tell) × Rose (old.faults fault) (new.faults fault)
CountsFault old new NoStore = ⊤
CountsFault old new (LogFull frame) = most_frames ≤ frame
CountsFault old new (Damaged file place) = ⊤

-- at LogFull the log takes no frame of this number, and has one to take before all that nobody will see is unlinked
abbrev pub FindsNoRoom : Found → OpenError → Type 0
FindsNoRoom found (LogFull frame) = (most_frames ≤ frame) × (frame < found.frames)
FindsNoRoom found _ = ⊤

-- a site without a store is left as it was, and a damaged one with all contents as they were
abbrev pub KeepsContent : State → State → OpenError → Type 0
KeepsContent old new OpenShort = ⊤
KeepsContent old new (OpenFault fault) = ⊤
KeepsContent old new NoStore = new ≡ old
KeepsContent old new (LogFull frame) = ⊤
KeepsContent old new (Damaged file place) = new.content ≡ old.content

-- ---- the status by which an error ends a run

abbrev pub status_of_make : MakeError → Status
status_of_make OutOfMemory = StatusShort
status_of_make (FaultOf fault) = DiskFault fault
status_of_make NotEmpty = StatusUsed

abbrev pub status_of_opening : OpenError → Status
status_of_opening OpenShort = StatusShort
status_of_opening (OpenFault fault) = DiskFault fault
status_of_opening NoStore = StatusNone
status_of_opening (LogFull frame) = StatusFull frame
status_of_opening (Damaged file place) = StatusDamaged file place
