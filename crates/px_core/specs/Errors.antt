-- From one error to the next, and the status by which a core's error ends a run.
use Rattle.std.specs.Prelude.{⊤, Option, Some}
use Rattle.px_site.specs.declared.error.SiteError.{SiteError}
use Rattle.px_site.specs.declared.error.SiteError.TheVariants.{OutOfMemory as SiteShort, Fault as SiteFault}
use Rattle.px_calls.specs.declared.status.Status.{Status}
use Rattle.px_calls.specs.declared.status.Status.TheVariants.{DiskFault, OutOfMemory as StatusShort, LogFull as StatusFull, Damaged as StatusDamaged}
use Rattle.px_held.specs.declared.error.HeldError.{HeldError}
use Rattle.px_held.specs.declared.error.HeldError.TheVariants as held
use Rattle.px_log.specs.declared.error.LogError.{LogError}
use Rattle.px_log.specs.declared.error.LogError.TheVariants as log
use Rattle.px_core.specs.declared.error.CoreError.{CoreError}
use Rattle.px_core.specs.declared.error.CoreError.TheVariants.{OutOfMemory, Fault as FaultOf, LogFull, Damaged, Broken}

abbrev pub of_site : SiteError → CoreError
of_site SiteShort = OutOfMemory
of_site (SiteFault fault) = FaultOf fault

abbrev pub of_held : HeldError → CoreError
of_held held.OutOfMemory = OutOfMemory
of_held (held.Fault fault) = FaultOf fault
of_held (held.Damaged file place) = Damaged file place

abbrev pub of_log : LogError → CoreError
of_log log.OutOfMemory = OutOfMemory
of_log (log.Fault fault) = FaultOf fault
of_log (log.LogFull number) = LogFull number

-- what a core keeps after an append's error: a fault breaks it
abbrev pub kept_after : LogError → Option SiteError → Option SiteError
kept_after log.OutOfMemory kept = kept
kept_after (log.Fault fault) kept = Some (SiteFault fault)
kept_after (log.LogFull number) kept = kept

-- a broken core answers what broke it
abbrev pub status_of : CoreError → Status
status_of OutOfMemory = StatusShort
status_of (FaultOf fault) = DiskFault fault
status_of (LogFull number) = StatusFull number
status_of (Damaged file place) = StatusDamaged file place
status_of (Broken SiteShort) = StatusShort
status_of (Broken (SiteFault fault)) = DiskFault fault

-- the error says nothing of the cells
abbrev pub IsPassing : CoreError → Type 0
IsPassing OutOfMemory = ⊤
IsPassing (FaultOf fault) = ⊤
IsPassing (LogFull number) = ⊤
IsPassing (Damaged file place) = ⊥
IsPassing (Broken error) = ⊤
