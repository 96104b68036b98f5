-- What errors of the log say, and what they leave.
use Rattle.std.specs.Prelude.{◌≡◌, ◌≢◌, ◌⊎◌, ⊤, ℕ, List, Some}
use Rattle.px_site.specs.Cause.{Counts, Rose}
use Rattle.px_site.specs.State.{State}
use Rattle.px_site.specs.declared.error.Fault.{Fault}
use Rattle.px_site.specs.declared.error.Fault.TheVariants.{Tell}
use Rattle.px_site.specs.declared.error.SiteError.{SiteError}
use Rattle.px_site.specs.declared.error.SiteError.TheVariants.{OutOfMemory as SiteShort, Fault as SiteFault}
use Rattle.px_restart.specs.declared.restart.Restart.{Restart}
use Rattle.px_log.specs.declared.error.LogError.{LogError}
use Rattle.px_log.specs.declared.error.LogError.TheVariants.{OutOfMemory, Fault as FaultOf, LogFull}
use Rattle.px_log.specs.declared.error.LogOpenError.{LogOpenError}
use Rattle.px_log.specs.declared.error.LogOpenError.TheVariants.{OutOfMemory as OpenShort, Fault as OpenFault, Damaged}
use Rattle.px_log.specs.Contents.{IsDamage}
use Rattle.px_xlog.specs.Contents.{the_log}
use Rattle.px_log.specs.Log.{Log, full_at}

-- ---- of an append

abbrev pub of_site : SiteError → LogError
of_site SiteShort = OutOfMemory
of_site (SiteFault fault) = FaultOf fault

-- it has its cause
abbrev pub HasLogCause : Log → Counts → Counts → LogError → Type 0
HasLogCause log old new OutOfMemory = ⊤
HasLogCause log old new (FaultOf fault) = Rose (old.faults fault) (new.faults fault)
HasLogCause log old new (LogFull n) = full_at log ≡ Some n

-- a fault is of this kind
abbrev pub IsFaultOf : Fault → LogError → Type 0
IsFaultOf kind OutOfMemory = ⊤
IsFaultOf kind (FaultOf fault) = fault ≡ kind
IsFaultOf kind (LogFull n) = ⊤

-- the site changed only at a fault
abbrev pub LeavesUntouched : State → State → LogError → Type 0
LeavesUntouched before now OutOfMemory = now ≡ before
LeavesUntouched before now (FaultOf fault) = ⊤
LeavesUntouched before now (LogFull n) = now ≡ before

abbrev pub OnShortage : LogError → Type 0 → Type 0
OnShortage OutOfMemory P = P
OnShortage _ P = ⊤

-- ---- of an opening

abbrev pub open_of_site : SiteError → LogOpenError
open_of_site SiteShort = OpenShort
open_of_site (SiteFault fault) = OpenFault fault

-- it is one of the site, and has its cause
abbrev pub IsOfSite : Counts → Counts → LogOpenError → Type 0
IsOfSite old new OpenShort = ⊤
IsOfSite old new (OpenFault fault) = Rose (old.faults fault) (new.faults fault)
IsOfSite old new (Damaged file place) = ⊥

-- it has its cause, by the log's content
abbrev pub HasOpenCause : Restart → List ℕ → Counts → Counts → LogOpenError → Type 0
HasOpenCause restart content old new OpenShort = ⊤
HasOpenCause restart content old new (OpenFault fault) = Rose (old.faults fault) (new.faults fault)
HasOpenCause restart content old new (Damaged file place) = (file ≡ the_log) × IsDamage restart content place

-- the same of what shows by the counts alone
abbrev pub CountsLogFault : Counts → Counts → LogOpenError → Type 0
CountsLogFault old new OpenShort = ⊤
CountsLogFault old new (OpenFault fault) = Rose (old.faults fault) (new.faults fault)
CountsLogFault old new (Damaged file place) = ⊤

-- a fault is one of a file's
abbrev pub IsFileFault : LogOpenError → Type 0
IsFileFault OpenShort = ⊤
IsFileFault (OpenFault fault) = fault ≢ Tell
IsFileFault (Damaged file place) = ⊤

-- what it leaves of the site: damage and want of the call's own memory leave it as it was
abbrev pub LeavesSite : State → State → Counts → Counts → LogOpenError → Type 0
LeavesSite before now old new OpenShort = (now ≡ before) ⊎ Rose old.shorts new.shorts
LeavesSite before now old new (OpenFault fault) = ⊤
LeavesSite before now old new (Damaged file place) = now ≡ before
