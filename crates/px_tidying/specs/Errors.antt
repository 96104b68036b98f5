-- Why tidying gives up.
use Rattle.std.specs.Prelude.{◌≢◌, ◌<◌, ◌≤◌, ⊤, ℕ}
use Rattle.px_held.specs.declared.error.HeldError.{HeldError}
use Rattle.px_held.specs.declared.error.HeldError.TheVariants as held
use Rattle.px_log.specs.Log.{most_frames}
use Rattle.px_log.specs.declared.error.LogError.{LogError}
use Rattle.px_log.specs.declared.error.LogError.TheVariants as log
use Rattle.px_site.specs.Cause.{Counts, Rose}
use Rattle.px_site.specs.declared.error.Fault.TheVariants.{Tell}
use Rattle.px_site.specs.declared.error.SiteError.{SiteError}
use Rattle.px_site.specs.declared.error.SiteError.TheVariants as site
use Rattle.px_tidying.specs.declared.error.TidyError.{TidyError}
use Rattle.px_tidying.specs.declared.error.TidyError.TheVariants.{OutOfMemory, Fault, LogFull, Damaged}

abbrev pub of_held : HeldError → TidyError
of_held held.OutOfMemory = OutOfMemory
of_held (held.Fault fault) = Fault fault
of_held (held.Damaged file place) = Damaged file place

abbrev pub of_log : LogError → TidyError
of_log log.OutOfMemory = OutOfMemory
of_log (log.Fault fault) = Fault fault
of_log (log.LogFull frame) = LogFull frame

abbrev pub of_site : SiteError → TidyError
of_site site.OutOfMemory = OutOfMemory
of_site (site.Fault fault) = Fault fault

-- a fault was counted, and the log has no room for the frame
abbrev pub HasTidyCause : (old new : Counts) → TidyError → Type 0
HasTidyCause old new OutOfMemory = ⊤
HasTidyCause old new (Fault fault) = Rose (old.faults fault) (new.faults fault)
HasTidyCause old new (LogFull frame) = most_frames ≤ frame
HasTidyCause old new (Damaged file place) = ⊤

-- the error says nothing of the cells
abbrev pub IsPassing : TidyError → Type 0
IsPassing OutOfMemory = ⊤
IsPassing (Fault fault) = ⊤
IsPassing (LogFull frame) = ⊤
IsPassing (Damaged file place) = ⊥

-- a fault is one of a file's
abbrev pub IsFileFault : TidyError → Type 0
IsFileFault OutOfMemory = ⊤
IsFileFault (Fault fault) = fault ≢ Tell
IsFileFault (LogFull frame) = ⊤
IsFileFault (Damaged file place) = ⊤

-- a frame for which the log has no room is one of those from one number to before another, which were to be written
abbrev pub IsFullWithin : (from end : ℕ) → TidyError → Type 0
IsFullWithin from end OutOfMemory = ⊤
IsFullWithin from end (Fault fault) = ⊤
IsFullWithin from end (LogFull frame) = (from ≤ frame) × (frame < end)
IsFullWithin from end (Damaged file place) = ⊤
