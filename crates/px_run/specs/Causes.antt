-- When each status may come, and what a refusal leaves.
use Rattle.std.specs.Prelude.{◌≡◌, ◌≢◌, ℕ, ◌≤◌, true, false, List, [], Option, Some, None}
use Rattle.px_site.specs.declared.error.Fault.{Fault}
use Rattle.px_site.specs.declared.error.Fault.TheVariants.{Read, Tell}
use Rattle.px_site.specs.State.{State, EachMoment}
use Rattle.px_site.specs.Cause.{Counts, Rose}
use Rattle.px_source.specs.Source.{Rose as ReadRose}
use Rattle.px_calls.specs.declared.status.Status.{Status}
use Rattle.px_calls.specs.declared.status.Status.TheVariants.{Done, Usage, BadLine, NoStore, NotEmpty, Damaged, DiskFault, SourceFault, OutputFault, OutOfMemory, LogFull, TooLong}
use Rattle.px_site.specs.declared.name.FileName.{FileName}
use Rattle.px_log.specs.Log.{most_frames}
use Rattle.px_standing.specs.Files.{Files, HasNoRestart}
use Rattle.px_recovery.specs.declared.error.OpenError.TheVariants.{Damaged as DamagedAt}
use Rattle.px_recovery.specs.Errors.{HasRefusal}
use Rattle.px_run.specs.declared.command.Command.{Command}
use Rattle.px_run.specs.declared.command.Command.TheVariants.{Run}
use Rattle.px_run.specs.Command.{opens}
use Rattle.px_run.specs.Told.{HasFilesOf, TellsInAll}

-- the words and counts by which a status may come
abbrev pub HasStatusCause : Option Command → (old new : Counts) → (reads reads_now : ℕ) → Status → Type 0
HasStatusCause command old new reads reads_now Done = command ≢ None
HasStatusCause command old new reads reads_now Usage = command ≡ None
HasStatusCause command old new reads reads_now (BadLine k) = command ≡ Some Run
HasStatusCause command old new reads reads_now NoStore = opens command ≡ true
HasStatusCause command old new reads reads_now NotEmpty = (opens command ≡ false) × (command ≢ None)
HasStatusCause command old new reads reads_now (Damaged file place) = opens command ≡ true
HasStatusCause command old new reads reads_now (DiskFault fault) = (command ≢ None) × (fault ≢ Tell) × Rose (old.faults fault) (new.faults fault)
HasStatusCause command old new reads reads_now SourceFault = (command ≡ Some Run) × ReadRose reads reads_now
HasStatusCause command old new reads reads_now OutputFault = (command ≢ None) × Rose old.tell_faults new.tell_faults
HasStatusCause command old new reads reads_now OutOfMemory = command ≢ None
HasStatusCause command old new reads reads_now (LogFull n) = (opens command ≡ true) × (most_frames ≤ n)
HasStatusCause command old new reads reads_now TooLong = command ≡ Some Run

-- no count fell
pub record NoCountFell (old new : Counts) : Type 0 where
  pub faults : (fault : Fault) → old.faults fault ≤ new.faults fault
  pub tell_faults : old.tell_faults ≤ new.tell_faults
  pub shorts : old.shorts ≤ new.shorts

-- ---- a store that isn't there, and one that is damaged

-- where it is a refusal, the files show it, and are as they were
abbrev pub ShowsRefusal : (files files_now : Files) → Status → Type 0
ShowsRefusal files files_now NoStore = HasNoRestart files × (files_now ≡ files)
ShowsRefusal files files_now (Damaged file place) = HasRefusal files (DamagedAt file place) × (files_now ≡ files)
ShowsRefusal files files_now _ = Unit {0}

-- this refusal, or what may come in its place
abbrev pub IsNoStore : Status → Type 0
IsNoStore NoStore = Unit {0}
IsNoStore (DiskFault fault) = fault ≡ Read
IsNoStore OutOfMemory = Unit {0}
IsNoStore _ = ⊥

abbrev pub IsDamaged : Status → Type 0
IsDamaged (Damaged file place) = Unit {0}
IsDamaged (DiskFault fault) = Unit {0}
IsDamaged OutOfMemory = Unit {0}
IsDamaged _ = ⊥

-- what the files show is refused
pub record RefusesBad (files : Files) (status : Status) : Type 0 where
  pub no_store : HasNoRestart files → IsNoStore status
  pub damaged : (file : FileName) (place : ℕ) → HasRefusal files (DamagedAt file place) → IsDamaged status

-- at a refusal its line alone is told
abbrev pub TellsLineAlone : (old new : State) → (counts counts_now : Counts) → Status → Type 0
TellsLineAlone old new counts counts_now Usage = TellsInAll [] 0 Usage old new counts counts_now × (new.content ≡ old.content) × EachMoment (HasFilesOf old.now) old new
TellsLineAlone old new counts counts_now NoStore = TellsInAll [] 0 NoStore old new counts counts_now × EachMoment (HasFilesOf old.now) old new
TellsLineAlone old new counts counts_now (Damaged file place) = TellsInAll [] 0 (Damaged file place) old new counts counts_now
TellsLineAlone old new counts counts_now _ = Unit {0}

-- where no store was opened, nothing was read; a site that doesn't tell its files may be found damaged later
abbrev pub ReadsNothing : (tells : Type 0) → (before left : List ℕ) → Status → Type 0
ReadsNothing tells before left NoStore = left ≡ before
ReadsNothing tells before left (Damaged file place) = tells → left ≡ before
ReadsNothing tells before left _ = Unit {0}
