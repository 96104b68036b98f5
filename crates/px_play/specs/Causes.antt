-- When the playing of a script may end with each status.
use Rattle.std.specs.Prelude.{◌≢◌, ⊤, ℕ, ◌≤◌}
use Rattle.px_site.specs.declared.error.Fault.TheVariants.{Tell}
use Rattle.px_site.specs.Cause.{Counts, Rose}
use Rattle.px_source.specs.Source.{Rose as ReadRose, one_more}
use Rattle.px_calls.specs.declared.status.Status.{Status}
use Rattle.px_calls.specs.declared.status.Status.TheVariants.{Done, Usage, BadLine, NoStore, NotEmpty, Damaged, DiskFault, SourceFault, OutputFault, OutOfMemory, LogFull, TooLong}
use Rattle.px_log.specs.Log.{most_frames}

-- the counts of the site and of the source by which a status may come
abbrev pub HasPlayCause : (old new : Counts) → (reads reads_now : ℕ) → Status → Type 0
HasPlayCause old new reads reads_now Done = ⊤
HasPlayCause old new reads reads_now Usage = ⊥
HasPlayCause old new reads reads_now (BadLine k) = ⊤
HasPlayCause old new reads reads_now NoStore = ⊥
HasPlayCause old new reads reads_now NotEmpty = ⊥
HasPlayCause old new reads reads_now (Damaged file place) = ⊤
HasPlayCause old new reads reads_now (DiskFault fault) = (fault ≢ Tell) × Rose (old.faults fault) (new.faults fault)
HasPlayCause old new reads reads_now SourceFault = ReadRose reads reads_now
HasPlayCause old new reads reads_now OutputFault = Rose old.tell_faults new.tell_faults
HasPlayCause old new reads reads_now OutOfMemory = ⊤
HasPlayCause old new reads reads_now (LogFull n) = most_frames ≤ n
HasPlayCause old new reads reads_now TooLong = ⊤

-- no cell was other than a store may have it
abbrev pub IsUndamaged : Status → Type 0
IsUndamaged (Damaged file place) = ⊥
IsUndamaged _ = ⊤

-- the count of failed reads where a run ends: one that failed ends it, and so it is the last one
abbrev pub faults_by : Status → ℕ → ℕ
faults_by SourceFault faults = one_more faults
faults_by _ faults = faults
